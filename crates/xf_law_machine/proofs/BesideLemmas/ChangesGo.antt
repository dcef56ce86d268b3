-- The changes that do not look at notes and at calls of the store.
use Rattle.std.proofs.Common.{ℕ, zero, suc, ◌+◌, ◌≡◌, Bool, true, false, List, [], ◌∷◌, map, length, Option, Some, None, Result, Ok, Err, nat_lt, refl, ap, ◌∙◌}
use Rattle.xf_def_forest.specs.declared.content.Content.{Content}
use Rattle.xf_def_forest.specs.declared.fault.TreeFault.{TreeFault}
use Rattle.xf_def_forest.specs.Changes.{copied, attached, detached, standing}
use Rattle.xf_def_forest.specs.Forest.{Forest, tree_of}
use Rattle.xf_def_forest.specs.Limits.{passed_by_text, unless}
use Rattle.xf_def_forest.specs.Planted.{with_tree}
use Rattle.xf_def_forest.specs.Shape.{has_elements, shape_of}
use Rattle.xf_def_forest.specs.Texts.{with_text, new_texts}
use Rattle.xf_def_forest.specs.Visit.{parent_of}
use Rattle.xf_def_model.specs.Applied.{Entry, Exception, twice, on_parent, applied}
use Rattle.xf_def_model.specs.Entries.{edge_count}
use Rattle.xf_def_model.specs.Circular.{Reader}
use Rattle.xf_def_ui.specs.Copies.{Copy, copies, copy_count}
use Rattle.xf_def_ui.specs.Index.{Index, Stop, brought_up}
use Rattle.xf_def_ui.specs.Notifications.{notifications}
use Rattle.xf_def_ui.specs.Started.{index_set}
use Rattle.xf_def_machine.specs.declared.limit.LimitWord.{LimitWord}
use Rattle.xf_def_machine.specs.declared.limit.LimitWord.TheVariants.{Controls, Edges}
use Rattle.xf_def_machine.specs.Profile.{Profile}
use Rattle.xf_def_machine.specs.State.{Model, State}
use Rattle.xf_def_machine.specs.Refusal.{Refused, or_long, unless_passed, if_over}
use Rattle.xf_def_machine.specs.Flow.{Run, ◌>>=◌}
use Rattle.xf_def_machine.specs.Surround.{interface, all_in, document_at, quiet, bind_scope, model_holding}
use Rattle.xf_def_machine.specs.Primitives.{spent_from, in_model, in_some_model, all_due, texts_due, with_indexes, refresh_due, with_text_mark, with_list_mark, list_changed, is_other_text, if_other, with_forest, grown, grown_to, grown_by, over_made, set_text, copy, plant, attach, detach}
use Rattle.xf_def_machine.specs.Properties.{marks_in}
use Rattle.xf_def_machine.specs.SetValue.{unless_parent}
use Rattle.xf_def_machine.specs.Behave.{asked_by_all, rebuilt_with, unless_cycle, no_cycle, by_applied, rebuild, recalculate, revalidate}
use Rattle.xf_def_machine.specs.Update.{with_brought, reindex, within_controls, shown}
use Rattle.xf_def_machine.specs.Choose.{set_index}
use Rattle.xf_def_machine.specs.Events.{Fired, told_by}
use Rattle.xf_def_machine.specs.Construct.{rooted, plant_document, build_model, first_shown, replace_at, replace, first_contents, put_back}
use Rattle.xf_law_machine.specs.Beside.Beside.{Beside, beside, besides, read_beside, made_beside, GoesBeside, ReadsBeside, MakesBeside, TurnsBeside}
use Rattle.xf_law_machine.specs.Beside.Laws.{refreshed, ChangesGoBeside}
use Rattle.xf_law_machine.proofs.BesideLemmas.Going.{some-goes, then-goes, then-makes, made-then, then-reads, then-run, long-reads, passed-reads}

-- ---- turns and texts

spent-goes : (k : ℕ) → GoesBeside (spent_from k)
spent-goes zero b s = refl
spent-goes (suc left) b s = refl

some-model : (change : Model → Model) (o : Option ℕ) → TurnsBeside (in_some_model change o)
some-model change None b s = refl
some-model change (Some model) b s = refl

grown-past : (b : Beside) (words : List LimitWord) (forest : Forest) (s t : State)
    → grown_to (unless_passed (beside b s) words (forest, beside b t)) ≡ besides b (grown_to (unless_passed s words (forest, t)))
grown-past b [] forest s t = refl
grown-past b (word ∷ words) forest s t = refl

grown-goes : (p : Profile) (count : ℕ) (r : Result Forest TreeFault) → GoesBeside (λ s. grown_to (grown p count r s))
grown-goes p count (Err fault) b s = refl
grown-goes p count (Ok forest) b s = grown-past b (over_made p (s.made + count)) forest s (record s { made = s.made + count })

text-goes : (p : Profile) (n : ℕ) (text : List ℕ) → GoesBeside (set_text p n text)
text-goes p n text b s =
    let forest = with_text n text s.forest in
    let count = length (new_texts n text s.forest) in
    let past = unless (passed_by_text p.bounds.limits (length text) forest.nodes) forest in
    let change : Model → Model = λ m. texts_due (if_other (is_other_text s n text) (with_text_mark n) m) in
    ap (λ m. grown_to (grown p count past m)) (some-model change (model_holding s n) b s) ∙ grown-goes p count past b (in_some_model change (model_holding s n) s)

parent-goes : (b : Beside) (c : Bool) (n : ℕ) (s : State) → unless_parent c n (λ t. Ok t) (beside b s) ≡ besides b (unless_parent c n (λ t. Ok t) s)
parent-goes b false n s = refl
parent-goes b true n s = refl

-- ---- trees that come and go

made-past : (b : Beside) (words : List LimitWord) (top : ℕ) (forest : Forest) (s t : State)
    → grown_by (unless_passed (beside b s) words ((top, forest), beside b t)) ≡ made_beside b (grown_by (unless_passed s words ((top, forest), t)))
made-past b [] top forest s t = refl
made-past b (word ∷ words) top forest s t = refl

made-goes : (p : Profile) (count : ℕ) (r : Result (ℕ × Forest) TreeFault) → MakesBeside (λ s. grown_by (grown p count r s))
made-goes p count (Err fault) b s = refl
made-goes p count (Ok (top, forest)) b s = made-past b (over_made p (s.made + count)) top forest s (record s { made = s.made + count })

copy-makes : (p : Profile) (n : ℕ) → MakesBeside (copy p n)
copy-makes p n b s = made-goes p (length (tree_of n s.forest.nodes)) (copied p.bounds.limits n s.forest) b s

plant-makes : (p : Profile) (contents : List (ℕ × Content)) → MakesBeside (plant p contents)
plant-makes p contents b s = made-goes p (length contents) (with_tree p.bounds.limits contents s.forest) b s

list-turns : (o : Option ℕ) → TurnsBeside (list_changed o)
list-turns None b s = refl
list-turns (Some parent) b s = some-model (λ m. all_due (with_list_mark parent m)) (model_holding s parent) b s

attach-goes : (p : Profile) (n parent place : ℕ) → GoesBeside (attach p n parent place)
attach-goes p n parent place b s =
    let past = attached p.bounds.limits n parent place s.forest in
    ap (λ m. grown_to (grown p 0 past m)) (list-turns (Some parent) b s) ∙ grown-goes p 0 past b (list_changed (Some parent) s)

detach-turns : (n : ℕ) → TurnsBeside (detach n)
detach-turns n b s = ap (with_forest (detached n s.forest)) (list-turns (parent_of n (all_in s)) b s)

placed-goes : (p : Profile) (n : ℕ) (contents : List (ℕ × Content)) (at : ℕ × ℕ) → GoesBeside (replace_at p n contents at)
placed-goes p n contents (parent, place) b s =
    ap (λ r. r >>= λ made. attach p made.0 parent place (detach n made.1)) (plant-makes p contents b s)
    ∙ made-then b (plant p contents s) (λ made. attach p made.0 parent place (detach n made.1))
    (λ top t. ap (attach p top parent place) (detach-turns n b t) ∙ attach-goes p top parent place b (detach n t))

replace-goes : (p : Profile) (n : ℕ) (contents : List (ℕ × Content)) → GoesBeside (replace p n contents)
replace-goes p n contents b s = some-goes (standing n s.forest.nodes) (replace_at p n contents) (placed-goes p n contents) b s

put-goes : (p : Profile) (first : Result State Refused) (place : ℕ) → GoesBeside (put_back p first place)
put-goes p first place b s =
    let contents = first_contents first place in some-goes (document_at s place) (λ n. replace p n contents) (λ n c t. replace-goes p n contents c t) b s

-- ---- the behaviours

cycle-goes : (b : Beside) (before : State) (readers : List Reader) (o : Option (List ℕ)) (s : State)
    → unless_cycle (beside b before) readers o (beside b s) ≡ besides b (unless_cycle before readers o s)
cycle-goes b before readers None s = refl
cycle-goes b before readers (Some places) s = refl

edges-go : (p : Profile) (model : ℕ) (entries : List Entry) (words : List LimitWord) (b : Beside) (s : State)
    → unless_passed (beside b s) words (beside b s) >>= no_cycle p model entries ≡ besides b (unless_passed s words s >>= no_cycle p model entries)
edges-go p model entries [] b s = cycle-goes b s _ _ s
edges-go p model entries (word ∷ words) b s = refl

exception-goes : (p : Profile) (model : ℕ) (x : Exception) → GoesBeside (by_applied p model (Err x))
exception-goes p model (twice n) b s = refl
exception-goes p model (on_parent n) b s = refl

applied-goes : (p : Profile) (model : ℕ) (r : Result (List Entry) Exception) → GoesBeside (by_applied p model r)
applied-goes p model (Err x) b s = exception-goes p model x b s
applied-goes p model (Ok entries) b s =
    let after = in_model (rebuilt_with entries (edge_count (bind_scope p s model) (shape_of s.forest.nodes) entries)) model s in
    edges-go p model entries (if_over (nat_lt p.edges (asked_by_all after)) Edges) b after

rebuild-goes : (p : Profile) (model : ℕ) → GoesBeside (rebuild p model)
rebuild-goes p model b s = applied-goes p model (applied (bind_scope p s model) s.forest.nodes) b s

passed-then : (b : Beside) (s : State) (words : List LimitWord) (one other : State → State) → one (beside b s) ≡ beside b (other s)
    → unless_passed (beside b s) words (beside b s) >>= (λ t. Ok (one t)) ≡ besides b (unless_passed s words s >>= (λ t. Ok (other t)))
passed-then b s [] one other h = ap (λ t. Ok t) h
passed-then b s (word ∷ words) one other h = refl

recalculate-goes : (p : Profile) (model : ℕ) → GoesBeside (recalculate p model)
recalculate-goes p model b s = passed-then b s _ _ _ refl

-- ---- the controls

brought-goes : (b : Beside) (s : State) (r : Result (List Index) Stop) → with_brought (beside b s) r ≡ besides b (with_brought s r)
brought-goes b s (Err stop) = refl
brought-goes b s (Ok indexes) = refl

reindex-goes : (p : Profile) (added : List ℕ) → GoesBeside (reindex p added)
reindex-goes p added b s = brought-goes b s (brought_up p.passes (interface s) (quiet p s) added s.indexes)

index-goes : (p : Profile) (model repeat index : ℕ) → GoesBeside (set_index p model repeat index)
index-goes p model repeat index b s =
    let o = index_set (interface s) (quiet p s) repeat index s.indexes in
    ap (λ r. r >>= λ indexes. Ok (in_model refresh_due model (with_indexes indexes (beside b s)))) (long-reads b s o)
    ∙ then-run b (or_long s o) (λ indexes. Ok (in_model refresh_due model (with_indexes indexes (beside b s))))
    (λ indexes. Ok (in_model refresh_due model (with_indexes indexes s))) (λ indexes. refl)

shown-reads : (p : Profile) → ReadsBeside (shown p)
shown-reads p b s =
    let o = copies (interface s) (quiet p s) (marks_in s) s.cases s.indexes in
    ap (λ r. r >>= λ list. within_controls p list (beside b s)) (long-reads b s o)
    ∙ then-reads b (or_long s o) (λ list. within_controls p list (beside b s)) (λ list. within_controls p list s)
    (λ list. passed-reads b s (if_over (nat_lt p.controls (copy_count list)) Controls) list)

list-made : (b : Beside) (t : State) (cleared : State → State) → TurnsBeside cleared → (r : Result (List Copy) Refused)
    → read_beside b r >>= (λ list. Ok (map told_by (notifications t.controls list), cleared (record (beside b t) { controls = list })))
    ≡ made_beside b (r >>= λ list. Ok (map told_by (notifications t.controls list), cleared (record t { controls = list })))
list-made b t cleared h (Err x) = refl
list-made b t cleared h (Ok list) = ap (λ u. Ok (map told_by (notifications t.controls list), u)) (h b (record t { controls = list }))

-- what follows the indexes
abbrev after_indexes : Profile → (State → State) → State → Result (List Fired × State) Refused
after_indexes p cleared t = shown p t >>= λ list. Ok (map told_by (notifications t.controls list), cleared (record t { controls = list }))

after-makes : (p : Profile) (cleared : State → State) → TurnsBeside cleared → MakesBeside (after_indexes p cleared)
after-makes p cleared h b t =
    ap (λ r. r >>= (λ list. Ok (map told_by (notifications t.controls list), cleared (record (beside b t) { controls = list })))) (shown-reads p b t)
    ∙ list-made b t cleared h (shown p t)

refreshed-makes : (p : Profile) (cleared : State → State) → TurnsBeside cleared → MakesBeside (refreshed p cleared)
refreshed-makes p cleared h b s =
    ap (λ r. r >>= after_indexes p cleared) (reindex-goes p [] b s) ∙ then-makes b (reindex p [] s) (after_indexes p cleared) (after-makes p cleared h)

first-goes : (p : Profile) → GoesBeside (first_shown p)
first-goes p b s =
    ap (λ r. r >>= λ list. Ok (record (beside b s) { controls = list })) (shown-reads p b s)
    ∙ then-run b (shown p s) (λ list. Ok (record (beside b s) { controls = list })) (λ list. Ok (record s { controls = list })) (λ list. refl)

-- ---- construction

rooted-past : (b : Beside) (words : List LimitWord) (top : ℕ) (forest : Forest) (s t : State)
    → rooted (unless_passed (beside b s) words ((top, forest), beside b t)) ≡ besides b (rooted (unless_passed s words ((top, forest), t)))
rooted-past b [] top forest s t = refl
rooted-past b (word ∷ words) top forest s t = refl

rooted-goes : (p : Profile) (count : ℕ) (r : Result (ℕ × Forest) TreeFault) → GoesBeside (λ s. rooted (grown p count r s))
rooted-goes p count (Err fault) b s = refl
rooted-goes p count (Ok (top, forest)) b s = rooted-past b (over_made p (s.made + count)) top forest s (record s { made = s.made + count })

document-goes : (p : Profile) (contents : List (ℕ × Content)) → GoesBeside (plant_document p contents)
document-goes p contents b s = rooted-goes p _ _ b s

abbrev validly : Profile → ℕ → Run
validly p model t = Ok (revalidate p model t)

build-goes : (p : Profile) (model : ℕ) → GoesBeside (build_model p model)
build-goes p model b s =
    ap (λ r. r >>= recalculate p model >>= validly p model) (rebuild-goes p model b s)
    ∙ ap (λ r. r >>= validly p model) (then-goes b (rebuild p model s) (recalculate p model) (recalculate-goes p model))
    ∙ then-goes b (rebuild p model s >>= recalculate p model) (validly p model) (λ c t. refl)

pub changes_go_beside : ChangesGoBeside
changes_go_beside p = record {
  spend = λ b s. spent-goes s.turns b s;
  set_text = text-goes p;
  settable = λ n b s. parent-goes b (has_elements (all_in s) n) n s;
  in_model = λ change model b s. refl;
  rebuild = rebuild-goes p;
  recalculate = recalculate-goes p;
  revalidate = λ model b s. refl;
  reindex = reindex-goes p;
  set_index = index-goes p;
  shown = shown-reads p;
  refresh_cleared = λ model b s. refl;
  all_cleared = λ b s. refl;
  refreshed = refreshed-makes p;
  plant_document = document-goes p;
  build_model = build-goes p;
  first_shown = first-goes p;
  copy = copy-makes p;
  plant = plant-makes p;
  attach = attach-goes p;
  detach = detach-turns;
  replace = replace-goes p;
  put_back = put-goes p;
  fresh = λ b s. refl;
  at_end = λ b s. refl;
}
