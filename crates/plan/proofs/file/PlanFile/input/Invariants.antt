use Rattle.std.proofs.Common.{◌≡◌, ℕ, ◌<◌, map}
use Rattle.std.specs.List.{range_with_len}
use Rattle.plan.specs.Layout.{file_cut_place, cut_in, LawfulIn}
use Rattle.plan.proofs.file.PlanFile.input.Given as goal

abbrev pub invariant-loop-level : goal.invariant-loop-level
invariant-loop-level l = record {
  lawful : (k : ℕ) → k < l.level → LawfulIn l.self.bytes.now (file_cut_place l.self.bytes.now l.channel k);
  made : l.cuts.items ≡ map (λ k. cut_in l.self.bytes.now (file_cut_place l.self.bytes.now l.channel k)) (range_with_len 0 l.level);
}
