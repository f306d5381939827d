-- `cuts::half` meets its contract, by `threshold_exact`. Assumes nothing.
use Rattle.cuts.proofs.Halved.{size_exact, threshold_exact}
use Rattle.cuts.proofs.half.Goals as goal

pub int_to_float-result : goal.int_to_float-result
int_to_float-result c = size_exact c.args.p c.requires

pub float_to_int-result : goal.float_to_int-result
float_to_int-result c = (threshold_exact c.args.p c.requires).0

pub returns : goal.returns
returns c = (threshold_exact c.args.p c.requires).1
