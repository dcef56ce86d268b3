use Rattle.std.proofs.Common.{◌≡◌, [], ap, sym, ◌∙◌}
use Rattle.std.specs.Option.{option_copied}
use Rattle.xf_def_forest.specs.Visit.{has}
use Rattle.xf_binds.specs.Held.{entries_in}
use Rattle.xf_binds.specs.Kept.{Entered}
use Rattle.xf_binds.specs.Readers.{list_or, readers_at, reads_at}
use Rattle.xf_binds.proofs.ordered.Ordered.readers.Goals as goal

pub returns-in-Some : goal.returns-in-Some
returns-in-Some c =
    let list : readers_at c.self.inside.readers c.args.number ≡ c.in-Some.places.now = ap list_or (sym c.get.ensures.value ∙ ap option_copied c.in-Some.is) in
    record { each = λ place. ap (has place) (sym list) ∙ c.self.invariant.1 c.args.number place ∙ ap (λ (o : Entered). reads_at (entries_in o.held) o.asks place c.args.number) c.self.view_is }

pub returns-in-None : goal.returns-in-None
returns-in-None c =
    let list : readers_at c.self.inside.readers c.args.number ≡ [] = ap list_or (sym c.get.ensures.value ∙ ap option_copied c.in-None.is) in
    record { each = λ place. ap (has place) (sym list) ∙ c.self.invariant.1 c.args.number place ∙ ap (λ (o : Entered). reads_at (entries_in o.held) o.asks place c.args.number) c.self.view_is }
