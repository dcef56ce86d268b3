use Rattle.std.proofs.Common.{map, option_map, ap, sym, ◌∙◌, rules}
use Rattle.std.proofs.lemmas.Option.{slice_get-map}
use Rattle.xf_actions.specs.Seen.{place_of}
use Rattle.xf_actions.proofs.Rounds.{same-makes}
use Rattle.xf_actions.proofs.Trees.{inserted-none, inserted-some}
use Rattle.xf_actions.proofs.insert.inserted.Goals as goal

pub returns-in-None-clause-done : goal.returns-in-None-clause-done
returns-in-None-clause-done g c = inserted-none g.W.World.profile c.args.inserting.now.is_before c.args.inserting.now.location (map place_of c.args.inserting.now.places) (g.W.World.state c.args.world.now) (slice_get-map place_of c.args.inserting.now.places 0 ∙ ap (option_map place_of) (sym c.in-None.ensures.value)) ∙ (search rules)

pub returns-in-Some-clause-done : goal.returns-in-Some-clause-done
returns-in-Some-clause-done g c =
    same-makes _ _ _ _ _ _ (inserted-some g.W.World.profile c.args.inserting.now.is_before c.args.inserting.now.location (map place_of c.args.inserting.now.places) (place_of c.in-Some.first.now) (g.W.World.state c.args.world.now) (slice_get-map place_of c.args.inserting.now.places 0 ∙ ap (option_map place_of) (sym c.in-Some.ensures.value))) c.inserted_in.ensures.done
