-- What an adoption leaves: what a construction over the carried data leaves, without detached trees.
use Rattle.std.proofs.Common.{ℕ, zero, suc, ◌+◌, ◌≡◌, ◌==◌, Bool, true, false, not, ◌&&◌, ◌||◌, List, [], ◌∷◌, length, get_or, slice_get, nat_lt, Option, Some, None, option_map, Result, Ok, Err, refl, sym, ap, ◌∙◌, subst, if◌then◌else◌}
use Rattle.std.specs.Prelude.{option_and_then}
use Rattle.std.specs.List.{list_any, list_all}
use Rattle.xf_name.specs.Bindings.{Bindings}
use Rattle.xf_def_syntax.specs.declared.form.Instance.{Instance}
use Rattle.xf_def_forest.specs.declared.content.Content.{Content}
use Rattle.xf_def_forest.specs.declared.content.Content.TheVariants.{Root, Element, Attribute, Text}
use Rattle.xf_def_forest.specs.declared.content.Name.{Name}
use Rattle.xf_def_forest.specs.declared.content.Node.{Node}
use Rattle.xf_def_forest.specs.declared.fault.TreeFault.{TreeFault}
use Rattle.xf_def_forest.specs.Changes.{is_detached_top, in_instances}
use Rattle.xf_def_forest.specs.Forest.{Forest, is_text, own_text, tree_of}
use Rattle.xf_def_forest.specs.Planted.{with_tree}
use Rattle.xf_def_model.specs.Pertinent.{AllOf}
use Rattle.xf_def_ui.specs.Cases.{cases_of, first_cases}
use Rattle.xf_def_ui.specs.Index.{Index, Stop, brought_up}
use Rattle.xf_def_ui.specs.Started.{started}
use Rattle.xf_def_machine.specs.declared.limit.LimitWord.{LimitWord}
use Rattle.xf_def_machine.specs.AtRest.{is_empty_text, are_cases}
use Rattle.xf_def_machine.specs.Behave.{rebuild, recalculate, revalidate}
use Rattle.xf_def_machine.specs.Carried.{Document, NoFit, content_under, document_under, name_under, is_same_top, document_of, or_no_fit, carried_one, with_rest, carried_from, carried, rank_of, construct_over, adopted_by, adopted_over, adopted}
use Rattle.xf_def_machine.specs.Construct.{build_model, construct, contents_under, first_shown, plant_document, rooted, start_indexes, unbuilt, instances_of}
use Rattle.xf_def_machine.specs.Cycles.{counted_from}
use Rattle.xf_def_machine.specs.Flow.{◌>>=◌, in_turn}
use Rattle.xf_def_machine.specs.Primitives.{grown, over_made, with_indexes}
use Rattle.xf_def_machine.specs.Profile.{Profile}
use Rattle.xf_def_machine.specs.Program.{Program}
use Rattle.xf_def_machine.specs.Refusal.{Refused, or_long, unless_passed}
use Rattle.xf_def_machine.specs.State.{Model, State}
use Rattle.xf_def_machine.specs.Step.{at_end}
use Rattle.xf_def_machine.specs.Surround.{document_at, interface, quiet}
use Rattle.xf_def_machine.specs.Update.{has_flag, reindex, shown, with_brought}
use Rattle.xf_law_machine.proofs.BehavioursLemmas.QuietKeeps.{is-due-none}
use Rattle.xf_law_machine.specs.Rest.Rests.{IsUnmarked, IsMarkedDue, Rests, is_empty, are_filled, is_filled}
use Rattle.xf_law_machine.proofs.RestLemmas.ClearLaws.{clear-instances, clear-tree, contents-clear}
use Rattle.xf_law_machine.proofs.RestLemmas.FilledLaws.{or-parts}
use Rattle.xf_law_machine.proofs.RestLemmas.FlagLaws.{rebuild-held, recalculate-held}
use Rattle.xf_law_machine.proofs.RestLemmas.Holds.{Held, held-any, held-then, held-turn}
use Rattle.xf_law_machine.proofs.RestLemmas.StartLaws.{Built, constructed}
use Rattle.xf_law_machine.proofs.RestLemmas.WithinLaws.{empty_text, long_text}
use Rattle.xf_law_sessions.specs.Shown.Constructed.{IsShown}
use Rattle.xf_law_sessions.proofs.ShownLemmas.Constructed.{construction_laws}
use Rattle.xf_law_sessions.specs.Adoption.Adoption.{AdoptionRests, AdoptionHasCases, AdoptionIsShown, AdoptionLaws}
use Rattle.xf_law_sessions.proofs.AdoptionLemmas.Cases.{have_cases, first-have}

and-true : (a b : Bool) → (a && b) ≡ true → (a ≡ true) × (b ≡ true)
and-true true b h = (refl, h)
and-true false b h = cc

both : (a b : Bool) → a ≡ true → b ≡ true → (a && b) ≡ true
both a b h k = rw (h, k) refl

-- ---- the data that are carried have no empty texts

abbrev Bad : Content → Bool
Bad c = is_text c && (length (own_text c) == 0)

neither : (a b : Bool) → a ≡ false → b ≡ false → (a || b) ≡ false
neither a b h k = rw (h, k) refl

-- a content under other bindings has the text that it has
content-same : (old new : Bindings) (c d : Content) → content_under old new c ≡ Some d → Bad d ≡ Bad c
content-same old new Root d e = let same : Root ≡ d = cc e in ap Bad (sym same)
content-same old new (Text text) d e = let same : Text text ≡ d = cc e in ap Bad (sym same)
content-same old new (Element name) d e = by (name_under old new name) e
  where
    by : (o : Option Name) → option_map Element o ≡ Some d → Bad d ≡ false
    by None q = cc q
    by (Some n) q = let same : Element n ≡ d = cc q in ap Bad (sym same)
content-same old new (Attribute name text) d e = by (name_under old new name) e
  where
    by : (o : Option Name) → option_map (λ n. Attribute n text) o ≡ Some d → Bad d ≡ false
    by None q = cc q
    by (Some n) q = let same : Attribute n text ≡ d = cc q in ap Bad (sym same)

under-clear : (old new : Bindings) (xs ys : Document) → document_under old new xs ≡ Some ys → list_any (λ (c : ℕ × Content). Bad c.1) xs ≡ false → list_any (λ (c : ℕ × Content). Bad c.1) ys ≡ false
under-clear old new [] ys e h = let same : ◌≡◌ {A = Document} [] ys = cc e in ap (list_any (λ (c : ℕ × Content). Bad c.1)) (sym same)
under-clear old new (x ∷ xs) ys e h = by (content_under old new x.1) refl (document_under old new xs) refl e (under-clear old new xs)
  where
    parts : (Bad x.1 ≡ false) × (list_any (λ (c : ℕ × Content). Bad c.1) xs ≡ false)
    parts = or-parts (Bad x.1) (list_any (λ (c : ℕ × Content). Bad c.1) xs) h

    Rest : Type 0
    Rest = (zs : Document) → document_under old new xs ≡ Some zs → list_any (λ (c : ℕ × Content). Bad c.1) xs ≡ false → list_any (λ (c : ℕ × Content). Bad c.1) zs ≡ false

    by : (o : Option Content) → content_under old new x.1 ≡ o → (l : Option Document) → document_under old new xs ≡ l
        → option_and_then (λ content. option_map (λ rest. (x.0, content) ∷ rest) l) o ≡ Some ys → Rest → list_any (λ (c : ℕ × Content). Bad c.1) ys ≡ false
    by None i l j q f = cc q
    by (Some d) i None j q f = cc q
    by (Some d) i (Some zs) j q f =
        let same : (x.0, d) ∷ zs ≡ ys = cc q in
        ap (list_any (λ (c : ℕ × Content). Bad c.1)) (sym same) ∙ neither (Bad d) (list_any (λ (c : ℕ × Content). Bad c.1) zs) (content-same old new x.1 d i ∙ parts.0) (f zs j parts.1)

module _ (s : State) (full : list_any is_empty_text s.forest.nodes ≡ false) where
  contents-are : (o : Option ℕ) → list_any (λ (c : ℕ × Content). Bad c.1) (contents_under s o) ≡ false
  contents-are None = refl
  contents-are (Some n) = contents-clear Bad (tree_of n s.forest.nodes) (clear-tree Bad n s.forest.nodes full)

  of-clear : (model rank : ℕ) → list_any (λ (c : ℕ × Content). Bad c.1) (document_of s model rank) ≡ false
  of-clear model rank = by (slice_get (instances_of s model) rank) refl
    where
      by : (o : Option ℕ) → slice_get (instances_of s model) rank ≡ o → list_any (λ (c : ℕ × Content). Bad c.1) (document_of s model rank) ≡ false
      by None e = rw e refl
      by (Some place) e = rw e (contents-are (document_at s place))

  fits-clear : (model rank : ℕ) (o : Option Document) (ds : Document) → or_no_fit model rank o ≡ Ok ds → ((zs : Document) → o ≡ Some zs → list_any (λ (c : ℕ × Content). Bad c.1) zs ≡ false)
      → list_any (λ (c : ℕ × Content). Bad c.1) ds ≡ false
  fits-clear model rank None ds e h = cc e
  fits-clear model rank (Some zs) ds e h = let same : zs ≡ ds = cc e in ap (list_any (λ (c : ℕ × Content). Bad c.1)) (sym same) ∙ h zs refl

  one-clear : (old new : Bindings) (model rank : ℕ) (was own ds : Document) → list_any (λ (c : ℕ × Content). Bad c.1) was ≡ false → list_any (λ (c : ℕ × Content). Bad c.1) own ≡ false
      → carried_one old new model rank was own ≡ Ok ds → list_any (λ (c : ℕ × Content). Bad c.1) ds ≡ false
  one-clear old new model rank was own ds h k e = by (is_same_top old new was own) e
    where
      by : (b : Bool) → (if b then or_no_fit model rank (document_under old new was) else Ok own) ≡ Ok ds → list_any (λ (c : ℕ × Content). Bad c.1) ds ≡ false
      by true q = fits-clear model rank (document_under old new was) ds q (λ zs i. under-clear old new was zs i h)
      by false q = let same : own ≡ ds = cc q in ap (list_any (λ (c : ℕ × Content). Bad c.1)) (sym same) ∙ k

  own-clear : (all : List Document) (place : ℕ) → list_all are_filled all ≡ true → list_any (λ (c : ℕ × Content). Bad c.1) (get_or all place []) ≡ false
  own-clear [] place h = refl
  own-clear (ds ∷ all) zero h = not-filled (list_any is_empty ds) (and-true (are_filled ds) (list_all are_filled all) h).0
    where
      not-filled : (b : Bool) → not b ≡ true → b ≡ false
      not-filled true q = cc q
      not-filled false q = refl
  own-clear (ds ∷ all) (suc place) h = own-clear all place (and-true (are_filled ds) (list_all are_filled all) h).1

  rest-filled : (first : Result Document NoFit) (r : Result (List Document) NoFit) (all : List Document) → with_rest first r ≡ Ok all
      → ((ds : Document) → first ≡ Ok ds → list_any (λ (c : ℕ × Content). Bad c.1) ds ≡ false) → ((ds : List Document) → r ≡ Ok ds → list_all are_filled ds ≡ true) → list_all are_filled all ≡ true
  rest-filled (Err fault) r all e h k = cc e
  rest-filled (Ok ds) (Err fault) all e h k = cc e
  rest-filled (Ok ds) (Ok rest) all e h k =
      let same : ds ∷ rest ≡ all = cc e in
      ap (list_all are_filled) (sym same) ∙ both (are_filled ds) (list_all are_filled rest) (ap not (h ds refl)) (k rest refl)

  carried-filled : (form : Program) → is_filled form ≡ true → (place : ℕ) (is : List Instance) (all : List Document) → carried_from s form place is ≡ Ok all → list_all are_filled all ≡ true
  carried-filled form f place [] all e = let same : ◌≡◌ {A = List Document} [] all = cc e in ap (list_all are_filled) (sym same)
  carried-filled form f place (i ∷ is) all e =
      let rank = rank_of form.instances i.model place in
      rest-filled (carried_one s.form.bindings form.bindings i.model rank (document_of s i.model rank) (get_or form.documents place [])) (carried_from s form (suc place) is) all e
      (λ ds q. one-clear s.form.bindings form.bindings i.model rank (document_of s i.model rank) (get_or form.documents place []) ds (of-clear i.model rank) (own-clear form.documents place f) q)
      (λ rest q. carried-filled form f (suc place) is rest q)

-- ---- the state that is left

record Adopted (p : Profile) (s : State) (form : Program) (t : State) : Type 0 where
  pub documents : List Document
  pub carries : carried s form ≡ Ok documents
  pub state : State
  pub constructs : construct_over p form documents ≡ Ok state
  pub is : record (at_end p state) { form = form; accepted = suc s.accepted } ≡ t

adopted-is : (p : Profile) (s : State) (form : Program) (t : State) → adopted p s form ≡ Ok t → Adopted p s form t
adopted-is p s form t e = by (carried s form) refl e
  where
    of : (documents : List Document) → carried s form ≡ Ok documents → (r : Result State Refused) → construct_over p form documents ≡ r → adopted_by p s form r ≡ Ok t → Adopted p s form t
    of documents c (Err refusal) i q = cc q
    of documents c (Ok u) i q = record { documents = documents; carries = c; state = u; constructs = i; is = cc q }

    by : (r : Result (List Document) NoFit) → carried s form ≡ r → adopted_over p s form r ≡ Ok t → Adopted p s form t
    by (Err fault) c q = cc q
    by (Ok documents) c q = of documents c (construct_over p form documents) refl q

held-ok : (P : State → Type 0) (r : Result State Refused) (u : State) → Held P r → r ≡ Ok u → P u
held-ok P (Err refusal) u h e = cc e
held-ok P (Ok v) u h e = let same : v ≡ u = cc e in subst P same h

-- ---- rest

no-recalculation : (a b c d : Bool) → (a || b || c || d) ≡ false → b ≡ false
no-recalculation true b c d h = cc
no-recalculation false true c d h = cc
no-recalculation false false c d h = refl

unmarked-where : (ms : List Model) → list_any (λ m. has_flag m.flags) ms ≡ false → AllOf IsMarkedDue ms → AllOf IsUnmarked ms
unmarked-where [] h k = tt
unmarked-where (m ∷ ms) h k =
    let parts = or-parts (has_flag m.flags) (list_any (λ x. has_flag x.flags) ms) h in
    (k.0 (no-recalculation m.flags.rebuild m.flags.recalculate m.flags.revalidate m.flags.refresh parts.0), unmarked-where ms parts.1 k.1)

if-in : (b : Bool) (x : Node) (xs : List Node) → is_detached_top x ≡ b → in_instances (in_instances xs) ≡ in_instances xs
    → in_instances (if b then [] else x ∷ in_instances xs) ≡ (if b then [] else x ∷ in_instances xs)
if-in true x xs e h = refl
if-in false x xs e h = ap (λ b. if b then [] else x ∷ in_instances (in_instances xs)) e ∙ ap (λ ys. x ∷ ys) h

in-twice : (xs : List Node) → in_instances (in_instances xs) ≡ in_instances xs
in-twice [] = refl
in-twice (x ∷ xs) = if-in (is_detached_top x) x xs refl (in-twice xs)

adoption_rests : AdoptionRests
adoption_rests p s form t f full e =
    let a = adopted-is p s form t e in
    let over = record form { documents = a.documents } in
    let built = held-ok (Built p over) (construct p over) a.state (constructed p over (carried-filled s full form f 0 form.instances a.documents a.carries)) a.constructs in
    let due = is-due-none a.state built.1 in
    subst (λ u. Rests p u) a.is (record {
      is_due = due;
      unmarked = unmarked-where a.state.models due built.0.models.marked;
      model_count = built.0.models.count;
      edges = built.0.models.edges;
      attached = in-twice a.state.forest.nodes;
      filled = clear-instances empty_text a.state.forest.nodes built.0.nodes.filled;
      texts = clear-instances (long_text p.bounds.limits.text) a.state.forest.nodes built.0.nodes.texts;
      is_fresh = refl;
    })

-- ---- cases

-- the form, and the first cases of its switches
record Has (form : Program) (s : State) : Type 0 where
  form_stays : s.form ≡ form
  cases : have_cases form.interface s.cases ≡ true

brought-has : (form : Program) (r : Result (List Index) Stop) (s : State) → Has form s → Held (Has form) (with_brought s r)
brought-has form (Err stop) s h = tt
brought-has form (Ok indexes) s h = record { form_stays = h.form_stays; cases = h.cases }

indexes-have : (p : Profile) (form : Program) (s : State) → Has form s → Held (Has form) (start_indexes p s)
indexes-have p form s h =
    held-any (Has form) (or_long s (started (interface s) (quiet p s))) (λ indexes. reindex p [] (with_indexes indexes s))
    (λ indexes. let t = with_indexes indexes s in brought-has form (brought_up p.passes (interface t) (quiet p t) [] t.indexes) t (record { form_stays = h.form_stays; cases = h.cases }))

shown-has : (p : Profile) (form : Program) (s : State) → Has form s → Held (Has form) (first_shown p s)
shown-has p form s h = held-any (Has form) (shown p s) (λ list. Ok (record s { controls = list })) (λ list. record { form_stays = h.form_stays; cases = h.cases })

abbrev OfForm : Program → State → Type 0
OfForm form s = s.form ≡ form

planted-of : (p : Profile) (form : Program) (contents : List (ℕ × Content)) (s : State) → OfForm form s → Held (OfForm form) (plant_document p contents s)
planted-of p form contents s h = by (with_tree p.bounds.limits contents s.forest)
  where
    made : (words : List LimitWord) (one : ℕ × Forest) → Held (OfForm form) (rooted (unless_passed s words (one, record s { made = s.made + length contents })))
    made [] one = h
    made (word ∷ words) one = tt

    by : (r : Result (ℕ × Forest) TreeFault) → Held (OfForm form) (rooted (grown p (length contents) r s))
    by (Err fault) = tt
    by (Ok one) = made (over_made p (s.made + length contents)) one

built-of : (p : Profile) (form : Program) (model : ℕ) (s : State) → OfForm form s → Held (OfForm form) (build_model p model s)
built-of p form model s h =
    held-then (OfForm form) (OfForm form) (rebuild p model s >>= recalculate p model) (λ t. Ok (revalidate p model t))
    (held-then (OfForm form) (OfForm form) (rebuild p model s) (recalculate p model) (rebuild-held (OfForm form) p model s (λ entries asked q. h))
    (λ t i. recalculate-held (OfForm form) p model t (λ made evaluated. i))) (λ t i. i)

constructed-has : (p : Profile) (form : Program) → list_all (λ n. nat_lt 0 (length (cases_of form.interface n))) form.interface.switches ≡ true → Held (Has form) (construct p form)
constructed-has p form c =
    let O = OfForm form in
    let last : State → Result State Refused = λ t. start_indexes p (record t { cases = first_cases (interface t) }) >>= first_shown p in
    held-then O (Has form) (in_turn (plant_document p) form.documents (unbuilt p form)) (λ s. in_turn (build_model p) (counted_from 0 (length s.models)) s >>= last)
    (held-turn O (plant_document p) form.documents (planted-of p form) (unbuilt p form) refl)
    (λ s h. held-then O (Has form) (in_turn (build_model p) (counted_from 0 (length s.models)) s) last
    (held-turn O (build_model p) (counted_from 0 (length s.models)) (built-of p form) s h)
    (λ t i. let u : State = record t { cases = first_cases (interface t) } in
    let first : have_cases form.interface (first_cases t.form.interface) ≡ true = subst (λ (x : Program). have_cases form.interface (first_cases x.interface) ≡ true) (sym i) (first-have form.interface c) in
    held-then (Has form) (Has form) (start_indexes p u) (first_shown p) (indexes-have p form u (record { form_stays = i; cases = first })) (shown-has p form)))

adoption_has_cases : AdoptionHasCases
adoption_has_cases p s form t c e =
    let a = adopted-is p s form t e in
    let over = record form { documents = a.documents } in
    let has_cases = held-ok (Has over) (construct p over) a.state (constructed-has p over c.some) a.constructs in
    subst (λ u. are_cases u ≡ true) a.is has_cases.cases

-- ---- what is shown

adoption_shown : AdoptionIsShown
adoption_shown p s form t numbered makes e =
    let a = adopted-is p s form t e in
    let trees = makes a.documents a.state a.constructs in
    subst (λ u. IsShown p u) a.is (construction_laws.adopted p form a.documents (suc s.accepted) a.state numbered a.constructs trees.0 trees.1)

pub adoption_laws : AdoptionLaws
adoption_laws = record { rests = adoption_rests; cases = adoption_has_cases; shown = adoption_shown }
