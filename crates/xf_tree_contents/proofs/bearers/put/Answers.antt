use Rattle.std.proofs.Common.{◌≡◌, true, Some, Ok, Err, Result, string_bytes, sym, ap, ◌∙◌}
use Rattle.std.proofs.lemmas.Map.Text.{hash_map_updates_text}
use Rattle.std.specs.Prelude.{is_ok, OnOk}
use Rattle.std.specs.Map.{update}
use Rattle.std.specs.Str.{bytes_eq}
use Rattle.indexmap.specs.IndexMap.{get_by_text}
use Rattle.xf_tree_contents.proofs.bearers.put.Goals as goal

where-ok : {A E P : Type 0} (r : Result A E) → OnOk r P → is_ok r ≡ true → P
where-ok (Ok a) holds is = holds
where-ok (Err e) holds is = absurd (let none : ⊥ = cc in none)

pub returns-in-Ok : goal.returns-in-Ok
returns-in-Ok c =
    let old = c.args.keys.now in
    let known = Some c.args.one in
    λ is name.
    hash_map_updates_text (string_bytes c.in-Ok.name) old c.insert.new.self known (where-ok c.insert.result c.insert.ensures.updates (sym c.is_ok.ensures.value ∙ is)) name
    ∙ ap (λ bytes. update bytes_eq (get_by_text old) bytes known name) c.in-Ok.ensures.ok
