use Rattle.std.proofs.Common.{rules}
use Rattle.relation.specs.Algebra.{◌∩◌}
use Rattle.ptx.proofs.flavour.Ptx.is_strong.Goals as goal

pub returns-in-WithProxies : goal.returns-in-WithProxies
unfolding ◌∩◌
returns-in-WithProxies c = search rules
