use Rattle.std.proofs.Common.{sym, ◌∙◌, arith, rules, tests}
use Rattle.std.proofs.lemmas.Iterator.{YieldsList-from_range}
use Rattle.std.proofs.lemmas.Iterator.Adapters.{option_map_id}
use Rattle.std.proofs.lemmas.Iterator.Consumers.{YieldsList-from_filter_map, min_from_yields_List}
use Rattle.cycles.specs.Counts.{apart}
use Rattle.cycles.proofs.Searches.{shorter_least}
use Rattle.cycles.proofs.Distances.shortest.Goals as goal

pub returns : goal.returns
returns c =
    let D = apart c.args.self.now in
    shorter_least D c.min.result
    (sym (option_map_id _)
    ∙ min_from_yields_List c.filter_map.result _ c.min.ensures.ran
    (YieldsList-from_filter_map _ (λ i. D i i) (YieldsList-from_range 0 64 64 (cc) (omega arith)) c.filter_map.ensures.closure (λ x r q k. search (rules, tests))))
