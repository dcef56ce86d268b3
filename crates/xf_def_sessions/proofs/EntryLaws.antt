-- The items of entries.
use Rattle.std.proofs.Common.{◌≡◌, List, [], ◌∷◌, ◌++◌, refl, sym, subst, ap, ◌∙◌, Option, Some, None, Result, Ok, Err}
use Rattle.std.specs.Prelude.{option_map, option_and_then}
use Rattle.xf_line.specs.declared.event.Asked.{Asked}
use Rattle.xf_line.specs.declared.event.Asked.TheVariants as asked
use Rattle.xf_line.specs.declared.fault.LineFault.{LineFault}
use Rattle.xf_line.specs.Line.{asked_by}
use Rattle.xf_store.specs.declared.answers.Answer.{Answer}
use Rattle.xf_journal.specs.declared.entry.Accepted.{Accepted}
use Rattle.xf_def_sessions.specs.Runs.{Item, line}
use Rattle.xf_def_sessions.specs.Images.{item_by, item_of, items_of}
use Rattle.xf_def_sessions.proofs.RunLaws.{IsLine, AreLines}

-- the first item and the others
pub joined-items : (first : Option Item) (rest : Option (List Item)) (items : List Item) → option_and_then (λ item. option_map (λ is. item ∷ is) rest) first ≡ Some items
    → (item : Item) × (others : List Item) × (first ≡ Some item) × (rest ≡ Some others) × (items ≡ item ∷ others)
joined-items None rest items h = cc
joined-items (Some item) None items h = cc
joined-items (Some item) (Some others) items h = (item, others, refl, refl, cc)

-- one entry more is one item more
pub items-more : (entries : List Accepted) (items : List Item) (entry : Accepted) (item : Item) → items_of entries ≡ Some items → item_of entry ≡ Some item
    → items_of (entries ++ entry ∷ []) ≡ Some (items ++ item ∷ [])
items-more [] items entry item h k =
    let e : items ≡ [] = cc in
    ap (option_and_then (λ i. Some (i ∷ []))) k ∙ ap (λ is. Some (is ++ item ∷ [])) (sym e)
items-more (first ∷ entries) items entry item h k =
    let parts = joined-items (item_of first) (items_of entries) items h in
    let rest = items-more entries parts.1 entry item parts.3 k in
    ap (λ o. option_and_then (λ i. option_map (λ is. i ∷ is) (items_of (entries ++ entry ∷ []))) o) parts.2
    ∙ ap (λ o. option_map (λ is. parts.0 ∷ is) o) rest
    ∙ ap (λ is. Some (is ++ item ∷ [])) (sym parts.4)

item-line : (r : Result Asked LineFault) (answers : List Answer) (item : Item) → item_by r answers ≡ Some item → IsLine item
item-line (Ok (asked.Event event)) answers item h = let same : line event answers ≡ item = cc in subst IsLine same tt
item-line (Ok asked.Show) answers item h = cc
item-line (Err fault) answers item h = cc

-- each is an event
pub items-lines : (entries : List Accepted) (items : List Item) → items_of entries ≡ Some items → AreLines items
items-lines [] items h = let same : [] ≡ items = cc in subst AreLines same tt
items-lines (entry ∷ entries) items h =
    let parts = joined-items (item_of entry) (items_of entries) items h in
    subst AreLines (sym parts.4) (item-line (asked_by entry.line) entry.answers parts.0 parts.2, items-lines entries parts.1 parts.3)
