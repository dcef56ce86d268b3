-- A construction keeps what is so within an event, and leaves nothing due; so do the events of a start.
use Rattle.std.proofs.Common.{◌≡◌, ℕ, suc, ◌+◌, Bool, true, false, not, ◌&&◌, List, [], ◌∷◌, map, length, nat_lt, nat_le, Option, Some, None, Result, Ok, Err, refl, ap, ◌∙◌, arith}
use Rattle.std.specs.Prelude.{fold}
use Rattle.std.specs.List.{list_all}
use Rattle.std.proofs.lemmas.Bool.Decides.{nat_tests}
use Rattle.xf_def_forest.specs.declared.content.Content.{Content}
use Rattle.xf_def_forest.specs.declared.fault.TreeFault.{TreeFault}
use Rattle.xf_def_forest.specs.Forest.{Forest, tree_of}
use Rattle.xf_def_forest.specs.Planted.{with_tree}
use Rattle.xf_def_forest.specs.Changes.{with_root}
use Rattle.xf_def_model.specs.Pertinent.{AllOf}
use Rattle.xf_def_ui.specs.Cases.{first_cases}
use Rattle.xf_def_ui.specs.Index.{Index, Stop, brought_up}
use Rattle.xf_def_ui.specs.Started as ui
use Rattle.xf_def_machine.specs.declared.limit.LimitWord.{LimitWord}
use Rattle.xf_def_machine.specs.Profile.{Profile}
use Rattle.xf_def_machine.specs.Program.{Program}
use Rattle.xf_def_machine.specs.State.{Model, State}
use Rattle.xf_def_machine.specs.Refusal.{Refused, unless_passed, or_long}
use Rattle.xf_def_machine.specs.Flow.{◌>>=◌, in_turn}
use Rattle.xf_def_machine.specs.Surround.{interface, document_at, quiet}
use Rattle.xf_def_machine.specs.Primitives.{with_forest, with_indexes, grown, over_made}
use Rattle.xf_def_machine.specs.Cycles.{counted_from}
use Rattle.xf_def_machine.specs.Behave.{no_model, rebuild, recalculate}
use Rattle.xf_def_machine.specs.Update.{with_brought, shown}
use Rattle.xf_def_machine.specs.Construct.{unbuilt, rooted, plant_document, build_model, start_indexes, first_shown, construct, contents_under, first_contents}
use Rattle.xf_law_machine.specs.Behaviours.Chain.{NoRebuild, NoneBefore}
use Rattle.xf_law_machine.proofs.BehavioursLemmas.QuietKeeps.{NoneDue, build-none, document-none, first-none}
use Rattle.xf_law_machine.specs.Rest.Rests.{IsMarkedDue, are_filled, is_filled}
use Rattle.xf_law_machine.proofs.RestLemmas.Holds.{Held, held-by, held-then, held-any, held-both, held-turn}
use Rattle.xf_law_machine.proofs.RestLemmas.FlagLaws.{rebuilt-none, recalculated-none}
use Rattle.xf_law_machine.proofs.RestLemmas.ClearLaws.{clear-tree, contents-clear, clear-root}
use Rattle.xf_law_machine.proofs.RestLemmas.WithinLaws.{Chained, Stands, empty_text, long_text, tree-stands, rebuild-stands, recalculate-stands, revalidate-stands}

-- ---- before anything is planted

none-chained : (ns : List ℕ) → AllOf Chained (map (λ m. no_model) ns)
none-chained [] = tt
none-chained (n ∷ ns) = (record { rebuild = λ h. cc; recalculate = λ h. cc; revalidate = λ h. cc }, none-chained ns)

none-marked : (ns : List ℕ) → AllOf IsMarkedDue (map (λ m. no_model) ns)
none-marked [] = tt
none-marked (n ∷ ns) = (λ h. record { texts = refl; lists = refl }, none-marked ns)

none-length : (ns : List ℕ) → length (map (λ m. no_model) ns) ≡ length ns
none-length [] = refl
none-length (n ∷ ns) = ap suc (none-length ns)

none-asked : (sum : ℕ) (ns : List ℕ) → fold (λ (a : ℕ) (m : Model). a + m.asked) sum (map (λ m. no_model) ns) ≡ sum
none-asked sum [] = refl
none-asked sum (n ∷ ns) = let q : sum + 0 ≡ sum = omega arith in none-asked (sum + 0) ns ∙ q

zero-most : (n : ℕ) → nat_le 0 n ≡ true
zero-most n = grind (arith, nat_tests)

unbuilt-stands : (p : Profile) (form : Program) → Stands p form 0 (unbuilt p form)
unbuilt-stands p form = record {
  models = record {
    chained = none-chained form.model_elements;
    marked = none-marked form.model_elements;
    count = none-length form.model_elements;
    edges = ap (λ n. nat_le n p.edges) (none-asked 0 form.model_elements) ∙ zero-most p.edges;
  };
  nodes = record { filled = refl; texts = refl };
  form = refl;
  accepted = refl;
}

-- ---- instances

rooted-held : (P : State → Type 0) (p : Profile) (count : ℕ) (r : Result (ℕ × Forest) TreeFault) (s : State)
    → ((one : ℕ × Forest) → r ≡ Ok one → P (with_forest (with_root one.0 one.1).1 (record s { made = s.made + count }))) → Held P (rooted (grown p count r s))
rooted-held P p count (Err fault) s k = tt
rooted-held P p count (Ok one) s k = by (over_made p (s.made + count))
  where
    by : (words : List LimitWord) → Held P (rooted (unless_passed s words (one, record s { made = s.made + count })))
    by [] = k one refl
    by (word ∷ words) = tt

none-long : (limit : ℕ) → nat_lt limit 0 ≡ false
none-long limit = grind (arith, nat_tests)

document-stands : (p : Profile) (form : Program) (contents : List (ℕ × Content)) (s : State) → are_filled contents ≡ true → Stands p form 0 s
    → Held (Stands p form 0) (plant_document p contents s)
document-stands p form contents s f h =
    rooted-held (Stands p form 0) p (length contents) (with_tree p.bounds.limits contents s.forest) s
    (λ one e. let n = tree-stands p form 0 contents s f h one e in
    record {
      models = h.models;
      nodes = record {
        filled = clear-root empty_text one.0 one.1 refl n.filled;
        texts = clear-root (long_text p.bounds.limits.text) one.0 one.1 (none-long p.bounds.limits.text) n.texts;
      };
      form = h.form;
      accepted = h.accepted;
    })

and-parts : (a b : Bool) → (a && b) ≡ true → (a ≡ true) × (b ≡ true)
and-parts true b h = (refl, h)
and-parts false b h = cc

-- what is so, and that nothing is due
abbrev pub Built : Profile → Program → State → Type 0
Built p form s = Stands p form 0 s × NoneDue s

documents-stand : (p : Profile) (form : Program) (all : List (List (ℕ × Content))) → list_all are_filled all ≡ true → (s : State) → Built p form s
    → Held (Built p form) (in_turn (plant_document p) all s)
documents-stand p form [] f s h = h
documents-stand p form (contents ∷ all) f s h =
    let parts = and-parts (are_filled contents) (list_all are_filled all) f in
    held-then (Built p form) (Built p form) (plant_document p contents s) (in_turn (plant_document p) all)
    (held-both (Stands p form 0) NoneDue (plant_document p contents s) (document-stands p form contents s parts.0 h.0)
    (held-by NoneDue (plant_document p contents s) (λ t e. document-none p contents s t h.1 e)))
    (documents-stand p form all parts.1)

-- ---- models, indexes and controls

built-stands : (p : Profile) (form : Program) (model : ℕ) (s : State) → Stands p form 0 s → Held (Stands p form 0) (build_model p model s)
built-stands p form model s h =
    let P = Stands p form 0 in
    held-then (λ u. P u × NoneBefore model u) P (rebuild p model s >>= recalculate p model) _
    (held-then (λ u. P u × NoRebuild model u) (λ u. P u × NoneBefore model u) (rebuild p model s) (recalculate p model)
    (held-both P (NoRebuild model) (rebuild p model s) (rebuild-stands p form 0 model s h) (rebuilt-none p model s))
    (λ u i. held-both P (NoneBefore model) (recalculate p model u) (recalculate-stands p form 0 model u i.1 i.0) (recalculated-none p model u i.1)))
    (λ u i. revalidate-stands p form 0 model u i.1 i.0)

all-built : (p : Profile) (form : Program) (models : List ℕ) (s : State) → Built p form s → Held (Built p form) (in_turn (build_model p) models s)
all-built p form models s h =
    held-turn (Built p form) (build_model p) models
    (λ model t i. held-both (Stands p form 0) NoneDue (build_model p model t) (built-stands p form model t i.0)
    (held-by NoneDue (build_model p model t) (λ u e. build-none p model t u i.1 e))) s h

brought-built : (p : Profile) (form : Program) (r : Result (List Index) Stop) (s : State) → Built p form s → Held (Built p form) (with_brought s r)
brought-built p form (Err stop) s h = tt
brought-built p form (Ok indexes) s h = (record { models = h.0.models; nodes = h.0.nodes; form = h.0.form; accepted = h.0.accepted }, h.1)

indexes-built : (p : Profile) (form : Program) (s : State) → Built p form s → Held (Built p form) (start_indexes p s)
indexes-built p form s h =
    held-any (Built p form) (or_long s (ui.started (interface s) (quiet p s))) _
    (λ indexes. let t = with_indexes indexes s in
    brought-built p form (brought_up p.passes (interface t) (quiet p t) [] t.indexes) t
    (record { models = h.0.models; nodes = h.0.nodes; form = h.0.form; accepted = h.0.accepted }, h.1))

shown-built : (p : Profile) (form : Program) (s : State) → Built p form s → Held (Built p form) (first_shown p s)
shown-built p form s h =
    held-any (Built p form) (shown p s) _ (λ list. (record { models = h.0.models; nodes = h.0.nodes; form = h.0.form; accepted = h.0.accepted }, h.1))

pub constructed : (p : Profile) (form : Program) → is_filled form ≡ true → Held (Built p form) (construct p form)
constructed p form f =
    let B = Built p form in
    let shown_after : State → Result State Refused = λ t. start_indexes p (record t { cases = first_cases (interface t) }) >>= first_shown p in
    held-then B B (in_turn (plant_document p) form.documents (unbuilt p form)) (λ s. in_turn (build_model p) (counted_from 0 (length s.models)) s >>= shown_after)
    (documents-stand p form form.documents f (unbuilt p form) (unbuilt-stands p form, first-none form.model_elements))
    (λ s h. held-then B B (in_turn (build_model p) (counted_from 0 (length s.models)) s) shown_after (all-built p form (counted_from 0 (length s.models)) s h)
    (λ t i. let u : State = record t { cases = first_cases (interface t) } in
    held-then B B (start_indexes p u) (first_shown p)
    (indexes-built p form u (record { models = i.0.models; nodes = i.0.nodes; form = i.0.form; accepted = i.0.accepted }, i.1)) (shown-built p form)))

-- ---- what a reset puts back

under-filled : (p : Profile) (form : Program) (first : State) (o : Option ℕ) → Stands p form 0 first → are_filled (contents_under first o) ≡ true
under-filled p form first None h = refl
under-filled p form first (Some n) h = ap not (contents-clear empty_text (tree_of n first.forest.nodes) (clear-tree empty_text n first.forest.nodes h.nodes.filled))

first-by : (p : Profile) (form : Program) (r : Result State Refused) (place : ℕ) → Held (Built p form) r → are_filled (first_contents r place) ≡ true
first-by p form (Err refusal) place h = refl
first-by p form (Ok first) place h = under-filled p form first (document_at first place) h.0

pub first-filled : (p : Profile) (form : Program) → is_filled form ≡ true → (place : ℕ) → are_filled (first_contents (construct p form) place) ≡ true
first-filled p form f place = first-by p form (construct p form) place (constructed p form f)
