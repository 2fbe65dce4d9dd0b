use Rattle.plan.proofs.OneFile.{one_file}
use Rattle.plan.proofs.plan.Plan.read.Goals as goal

pub returns-in_err-self-clause-onefile : goal.returns-in_err-self-clause-onefile
returns-in_err-self-clause-onefile c = one_file

pub returns-clause-onefile : goal.returns-clause-onefile
returns-clause-onefile c = one_file
