-- Where proxies make no difference. Assumes nothing.
use Rattle.std.specs.Prelude.{◌≡◌, ◌≤◌, true, length}
use Rattle.execution.specs.Facts.{Facts}
use Rattle.execution.specs.Joins.{Joins}
use Rattle.model.specs.View.{all_generic, SameMeaning}
use Rattle.ptx.specs.declared.flavour.Ptx.TheVariants.{Plain, WithProxies}
use Rattle.ptx.specs.Axioms.{ptx_meaning}

-- PTX with proxies means the same as PTX of every execution of at most 64 events that are all generic
abbrev pub ProxiesAgree : Type 0
ProxiesAgree =
    (x : Facts) → length x.events ≤ 64 → Joins x.events x.po → all_generic x.events ≡ true
    → SameMeaning (ptx_meaning WithProxies) (ptx_meaning Plain) x
