-- Lists that a loop makes item by item.
use Rattle.std.proofs.Common.{◌≡◌, ℕ, ◌+◌, ◌<◌, List, [], ◌∷◌, ◌++◌, length, map, sym, ap, ◌∙◌, arith}
use Rattle.std.proofs.lemmas.List.FromFn.{length-map-range_with_len, get_or-map-range_with_len, map-range_with_len_more}
use Rattle.std.specs.Prelude.{slice_index_or}
use Rattle.std.specs.List.{range_with_len}

pub made_length : {X : Type 0} (f : ℕ → X) (n : ℕ) (xs : List X) → xs ≡ map f (range_with_len 0 n) → length xs ≡ n
made_length f n xs so_far = ap length so_far ∙ length-map-range_with_len f 0 n

-- one item more
pub made_more : {X : Type 0} (f : ℕ → X) (n : ℕ) (xs ys : List X) (x : X) → xs ≡ map f (range_with_len 0 n) → x ≡ f n → ys ≡ xs ++ x ∷ [] → ys ≡ map f (range_with_len 0 (n + 1))
made_more f n xs ys x so_far here more = more ∙ (λ k. so_far k ++ here k ∷ []) ∙ sym (map-range_with_len_more f 0 n n (omega arith))

pub made_at : {X : Type 0} (f : ℕ → X) (n : ℕ) (xs : List X) (d : X) (k : ℕ) → xs ≡ map f (range_with_len 0 n) → k < n → slice_index_or xs k d ≡ f k
made_at f n xs d k made h = ap (λ ys. slice_index_or ys k d) made ∙ get_or-map-range_with_len f 0 n k k d h (omega arith)
