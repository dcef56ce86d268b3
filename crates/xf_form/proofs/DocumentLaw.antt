-- The places of an element lead to it in the tree that a form was read from.
use Rattle.std.proofs.Common.{◌≡◌, ◌≤◌, ◌<◌, ℕ, zero, suc, ◌+◌, Bool, true, false, not, ◌&&◌, ◌||◌, ◌==◌, cond, List, [], ◌∷◌, ◌++◌, map, length, slice_get, Option, Some, None, refl, ap, sym, ◌∙◌, subst, append_assoc, append-nil, length-append, arith, inl, inr, ◌⊎◌}
use Rattle.std.specs.Prelude.{option_and_then, count_by}
use Rattle.std.specs.List.{list_any}
use Rattle.std.proofs.lemmas.Bool.{and_parts, or_parts, eqb-true, cond-true}
use Rattle.std.proofs.lemmas.List.Sums.{sum_by-append}
use Rattle.xf_def_syntax.specs.declared.element.Part.{Part}
use Rattle.xf_def_syntax.specs.declared.element.Part.TheVariants as part
use Rattle.xf_def_syntax.specs.declared.form.Instance.{Instance}
use Rattle.xf_name.specs.Bindings.{Bindings}
use Rattle.xf_name.specs.declared.lit.Lit.{Lit}
use Rattle.xf_name.specs.declared.lit.Lit.TheOpen.{Lit-F, LitElement-F}
use Rattle.xf_name.specs.declared.lit.Lit.TheFolds.{map-Lit, ind-Lit}
use Rattle.xf_name.specs.declared.lit.Lit.TheViews.{out-roll-Lit, roll-Lit, roll-LitElement}
use Rattle.xf_name.specs.declared.lit.Lit.TheVariants.{Text, Element, rolls-Text, rolls-Element}
use Rattle.xf_name.specs.declared.lit.LitElement.{LitElement}
use Rattle.xf_form_refusals.specs.declared.classes.Class.TheVariants as class
use Rattle.xf_form_refusals.specs.declared.standing.Standing.{Standing}
use Rattle.xf_form_refusals.specs.Classes.{is_of, is_switch}
use Rattle.xf_form_refusals.specs.Decimals.{decimals_of}
use Rattle.xf_form_refusals.specs.Refusals.{refusal_at, own_refusal, lacks_model, is_misplaced, is_element, is_case_in, first_from, first_refusal, first_model}
use Rattle.xf_form_refusals.specs.Rows.{Seen, is_numbered}
use Rattle.xf_form_refusals.specs.Standing.{is_outside, is_instance, at_root}
use Rattle.xf_form_refusals.specs.Tally.{one_where}
use Rattle.xf_form_refusals.specs.Walk.{Piece, text, element, piece_of, walk_of, rows_in, rows_from, parts_from, text_if, keeps, rows_of}
use Rattle.xf_form_refusals.proofs.WalkLemmas.{piece_of-Text, piece_of-Element, walk_of-is, head, inside}
use Rattle.xf_form_vocabulary.specs.Attributes.{known_in}
use Rattle.xf_form_vocabulary.specs.Faults.{is_bad_expression, is_moving_expression}
use Rattle.xf_form_vocabulary.specs.Placement.{may_stand}
use Rattle.xf_form.specs.Data.{lit_at, children_by, children_in}
use Rattle.xf_form.specs.Documents.{HasDocument, HaveDocuments, LoadedDocuments}
use Rattle.xf_form.specs.Models.{through, below, places_to, places_of, document_in, instance_of, instance_by}
use Rattle.xf_form.specs.Tables.{each_from}
use Rattle.xf_form.proofs.FormTrees.{get_at}
use Rattle.xf_form.proofs.LoadedLemmas.{came_by}
use Rattle.xf_form.proofs.StaticLaw.{if_none, unless_none, later_none, none_said}

-- ---- what is led to

abbrev PartLeads : Lit → List Seen → Part → Type 0
PartLeads form all (part.Text t) = Unit {0}
PartLeads form all (part.Element place) = (e : LitElement) × (lit_at (places_of all place) form ≡ Some (Element e))

abbrev PartsLead : Lit → List Seen → List Part → Type 0
PartsLead form all [] = Unit {0}
PartsLead form all (p ∷ ps) = PartLeads form all p × PartsLead form all ps

abbrev RowsLead : Lit → List Seen → List Seen → Type 0
RowsLead form all [] = Unit {0}
RowsLead form all (r ∷ rs) = PartsLead form all r.parts × RowsLead form all rs

rows_lead : (form : Lit) (all xs ys : List Seen) → RowsLead form all xs → RowsLead form all ys → RowsLead form all (xs ++ ys)
rows_lead form all [] ys first last = last
rows_lead form all (x ∷ xs) ys first last = (first.0, rows_lead form all xs ys first.1 last)

text_leads : (form : Lit) (all : List Seen) (keep : Bool) (t : List ℕ) (ps : List Part) → PartsLead form all ps → PartsLead form all (text_if keep t ++ ps)
text_leads form all true t ps rest = (tt, rest)
text_leads form all false t ps rest = rest

last_step : (o : Option Lit) → option_and_then (lit_at []) o ≡ o
last_step None = refl
last_step (Some x) = refl

more_steps : (ps : List ℕ) (at : ℕ) → ((x : Lit) → lit_at (ps ++ at ∷ []) x ≡ option_and_then (λ y. slice_get (children_in y) at) (lit_at ps x)) → (o : Option Lit)
    → option_and_then (lit_at (ps ++ at ∷ [])) o ≡ option_and_then (λ y. slice_get (children_in y) at) (option_and_then (lit_at ps) o)
more_steps ps at inner None = refl
more_steps ps at inner (Some x) = inner x

lit_below : (places : List ℕ) (at : ℕ) (form : Lit) → lit_at (places ++ at ∷ []) form ≡ option_and_then (λ y. slice_get (children_in y) at) (lit_at places form)
lit_below [] at form = last_step (slice_get (children_in form) at)
lit_below (p ∷ ps) at form = more_steps ps at (λ x. lit_below ps at x) (slice_get (children_in form) p)

children_of : (e : LitElement) → children_in (Element e) ≡ e.children
children_of e = ap children_in (sym (rolls-Element e)) ∙ ap children_by (out-roll-Lit (Lit-F.Element e))

got_child : (xs ys : List Lit) (y : Lit) → slice_get (xs ++ y ∷ ys) (length xs) ≡ Some y
got_child [] ys y = refl
got_child (x ∷ xs) ys y = got_child xs ys y

-- the child at a place, by the places of its element
child_at : (form : Lit) (places : List ℕ) (at : ℕ) (e : LitElement) (xs ys : List Lit) (y : Lit) → lit_at places form ≡ Some (Element e) → e.children ≡ xs ++ y ∷ ys → at ≡ length xs → lit_at (places ++ at ∷ []) form ≡ Some y
child_at form places at e xs ys y led children same =
    lit_below places at form ∙ ap (option_and_then (λ y. slice_get (children_in y) at)) led ∙ ap (λ l. slice_get l at) (children_of e ∙ children) ∙ ap (slice_get (xs ++ y ∷ ys)) same
    ∙ got_child xs ys y

-- ---- the places of an element

-- an element that stands so at a place has these places
record Stands (all : List Seen) (n : ℕ) (s : Standing) (at : ℕ) (places : List ℕ) : Type 0 where
  leads : (m : ℕ) (row : Seen) → length places < m → row.standing ≡ s → row.at ≡ at → slice_get all n ≡ Some row → places_to m all n ≡ places
  short : length places ≤ n

root_places : (all : List Seen) (m : ℕ) (row : Seen) → 0 < m → row.standing ≡ at_root → slice_get all 0 ≡ Some row → places_to m all 0 ≡ []
unfolding places_to
root_places all zero row some stands got = absurd (omega arith)
root_places all (suc m) row some stands got = ap (through (places_to m all)) got ∙ ap (λ s. below (places_to m all) s.parent row.at) stands

root_stands : (all : List Seen) → Stands all 0 at_root 0 []
root_stands all = record { leads = λ m row some stands here got. root_places all m row some stands got; short = omega arith }

child_places : (all : List Seen) (n c at : ℕ) (i : Standing) (places : List ℕ) (m : ℕ) (row : Seen) → i.parent ≡ Some n → ((k : ℕ) → length places < k → places_to k all n ≡ places) → length (places ++ at ∷ []) < m → row.standing ≡ i → row.at ≡ at
    → slice_get all c ≡ Some row → places_to m all c ≡ places ++ at ∷ []
unfolding places_to
child_places all n c at i places zero row around known some stands here got = absurd (omega arith)
child_places all n c at i places (suc m) row around known some stands here got =
    let sum : length (places ++ at ∷ []) ≡ length places + 1 = length-append places (at ∷ []) in
    ap (through (places_to m all)) got ∙ ap (λ p. below (places_to m all) p row.at) (ap (λ s. s.parent) stands ∙ around)
    ∙ ap (λ l. l ++ row.at ∷ []) (known m (omega (arith, sum))) ∙ ap (λ a. places ++ a ∷ []) here

child_stands : (all : List Seen) (n c at : ℕ) (i : Standing) (places : List ℕ) → i.parent ≡ Some n → ((k : ℕ) → length places < k → places_to k all n ≡ places) → length places ≤ n → n < c → Stands all c i at (places ++ at ∷ [])
child_stands all n c at i places around known short later =
    let sum : length (places ++ at ∷ []) ≡ length places + 1 = length-append places (at ∷ []) in
    record { leads = λ m row some stands here got. child_places all n c at i places m row around known some stands here got; short = omega (arith, sum) }

-- ---- the walk

abbrev ElementLeads : Bindings → LitElement → Type 0
ElementLeads b e = (form : Lit) (all : List Seen) (s : Standing) (at : ℕ) (before after : List Seen) (places : List ℕ) → before ++ (walk_of b e s at (length before) ++ after) ≡ all → Stands all (length before) s at places
    → lit_at places form ≡ Some (Element e) → RowsLead form all (walk_of b e s at (length before)) × PartLeads form all (part.Element (length before))

abbrev Leads : Bindings → Lit → Type 0
Leads b x = ((t : List ℕ) × (x ≡ Text t)) ⊎ ((e : LitElement) × (x ≡ Element e) × ElementLeads b e)

abbrev Child : Bindings → Type 0
Child b = (x : Lit) × Leads b x

abbrev lits : (b : Bindings) → List (Child b) → List Lit
lits b ys = map (λ y. y.0) ys

abbrev pieces : (b : Bindings) → List (Child b) → List Piece
pieces b ys = map (piece_of b) (lits b ys)

-- what is known of an element whose children are walked
record Around (b : Bindings) (form : Lit) (all : List Seen) (i : Standing) (n : ℕ) (places : List ℕ) (e : LitElement) : Type 0 where
  around : i.parent ≡ Some n
  known : (k : ℕ) → length places < k → places_to k all n ≡ places
  short : length places ≤ n
  led : lit_at places form ≡ Some (Element e)

pieces_lead : (b : Bindings) (form : Lit) (all : List Seen) (i : Standing) (keep : Bool) (n : ℕ) (places : List ℕ) (e : LitElement) → Around b form all i n places e → (at : ℕ) (before after : List Seen) (xs : List Lit) (ys : List (Child b))
    → e.children ≡ xs ++ lits b ys → at ≡ length xs → n < length before → before ++ (rows_from i at (length before) (pieces b ys) ++ after) ≡ all
    → RowsLead form all (rows_from i at (length before) (pieces b ys)) × PartsLead form all (parts_from keep i at (length before) (pieces b ys))
pieces_lead b form all i keep n places e known at before after xs [] children same later is = (tt, tt)
pieces_lead b form all i keep n places e known at before after xs (y ∷ ys) children same later is =
    let m = length before in
    let ps = pieces b ys in
    let next : at + 1 ≡ length (xs ++ y.0 ∷ []) = let sum = length-append xs (y.0 ∷ []) in omega (arith, sum, same) in
    let more : e.children ≡ (xs ++ y.0 ∷ []) ++ lits b ys = children ∙ sym (append_assoc xs (y.0 ∷ []) (lits b ys)) in
    elim y.1 [
      | inl h ↦
          let none_more : m + 0 ≡ m = omega arith in
          let told : piece_of b y.0 ≡ text h.0 = ap (piece_of b) h.1 ∙ piece_of-Text b h.0 in
          let rows : rows_from i at m (piece_of b y.0 ∷ ps) ≡ rows_from i (at + 1) m ps = ap (λ q. rows_from i at m (q ∷ ps)) told ∙ ap (λ k. rows_from i (at + 1) k ps) none_more in
          let parts : parts_from keep i at m (piece_of b y.0 ∷ ps) ≡ text_if keep h.0 ++ parts_from keep i (at + 1) m ps =
          ap (λ q. parts_from keep i at m (q ∷ ps)) told ∙ ap (λ k. text_if keep h.0 ++ parts_from keep i (at + 1) k ps) none_more in
          let rest = pieces_lead b form all i keep n places e known (at + 1) before after (xs ++ y.0 ∷ []) ys more next later (ap (λ l. before ++ (l ++ after)) (sym rows) ∙ is) in
          (subst (RowsLead form all) (sym rows) rest.0, subst (PartsLead form all) (sym parts) (text_leads form all keep h.0 (parts_from keep i (at + 1) m ps) rest.1))
      | inr h ↦
          let told : piece_of b y.0 ≡ element (walk_of b h.0) = ap (piece_of b) h.1 ∙ piece_of-Element b h.0 in
          let walk = walk_of b h.0 i at m in
          let long : length (before ++ walk) ≡ m + length walk = length-append before walk in
          let others = rows_from i (at + 1) (m + length walk) ps in
          let place : before ++ ((walk ++ others) ++ after) ≡ all = ap (λ q. before ++ (rows_from i at m (q ∷ ps) ++ after)) (sym told) ∙ is in
          let here : before ++ (walk ++ (others ++ after)) ≡ all = ap (λ l. before ++ l) (sym (append_assoc walk others after)) ∙ place in
          let there : (before ++ walk) ++ (rows_from i (at + 1) (length (before ++ walk)) ps ++ after) ≡ all =
          ap (λ k. (before ++ walk) ++ (rows_from i (at + 1) k ps ++ after)) long ∙ append_assoc before walk (others ++ after) ∙ here in
          let stands = child_stands all n m at i places known.around known.known known.short later in
          let led : lit_at (places ++ at ∷ []) form ≡ Some (Element h.0) = child_at form places at e xs (lits b ys) y.0 known.led children same ∙ ap Some h.1 in
          let first = h.2 form all i at before (others ++ after) (places ++ at ∷ []) here stands led in
          let past : n < length (before ++ walk) = omega (arith, long) in
          let rest = pieces_lead b form all i keep n places e known (at + 1) (before ++ walk) after (xs ++ y.0 ∷ []) ys more next past there in
          let rows : rows_from i at m (piece_of b y.0 ∷ ps) ≡ walk ++ rows_from i (at + 1) (length (before ++ walk)) ps =
          ap (λ q. rows_from i at m (q ∷ ps)) told ∙ ap (λ k. walk ++ rows_from i (at + 1) k ps) (sym long) in
          let parts : parts_from keep i at m (piece_of b y.0 ∷ ps) ≡ part.Element m ∷ parts_from keep i (at + 1) (length (before ++ walk)) ps =
          ap (λ q. parts_from keep i at m (q ∷ ps)) told ∙ ap (λ k. part.Element m ∷ parts_from keep i (at + 1) k ps) (sym long) in
          (subst (RowsLead form all) (sym rows) (rows_lead form all walk (rows_from i (at + 1) (length (before ++ walk)) ps) first.0 rest.0), subst (PartsLead form all) (sym parts) (first.1, rest.1))
    ]

element_leads : (b : Bindings) (e : LitElement) (ys : List (Child b)) → e.children ≡ lits b ys → ElementLeads b e
element_leads b e ys children form all s at before after places is stands led =
    let n = length before in
    let i = inside b e s n in
    let ps = pieces b ys in
    let row : Seen = head b e s at (parts_from (keeps i) i 0 (n + 1) ps) in
    let walk : walk_of b e s at n ≡ row ∷ rows_from i 0 (n + 1) ps =
    walk_of-is b e s at n ∙ ap (λ cs. head b e s at (parts_from (keeps i) i 0 (n + 1) (map (piece_of b) cs)) ∷ rows_from i 0 (n + 1) (map (piece_of b) cs)) children in
    let long : length (before ++ row ∷ []) ≡ n + 1 = length-append before (row ∷ []) in
    let place : before ++ (row ∷ (rows_from i 0 (n + 1) ps ++ after)) ≡ all = ap (λ l. before ++ (l ++ after)) (sym walk) ∙ is in
    let there : (before ++ row ∷ []) ++ (rows_from i 0 (length (before ++ row ∷ [])) ps ++ after) ≡ all =
    ap (λ m. (before ++ row ∷ []) ++ (rows_from i 0 m ps ++ after)) long ∙ append_assoc before (row ∷ []) (rows_from i 0 (n + 1) ps ++ after) ∙ place in
    let got : slice_get all n ≡ Some row = ap (λ l. slice_get l n) (sym place) ∙ get_at before (rows_from i 0 (n + 1) ps ++ after) row in
    let known : Around b form all i n places e = record { around = refl; known = λ k some. stands.leads k row some refl refl got; short = stands.short; led = led } in
    let inner = pieces_lead b form all i (keeps i) n places e known 0 (before ++ row ∷ []) after [] ys children refl (omega (arith, long)) there in
    let here : places_of all n ≡ places = known.known (n + 1) (omega (arith, stands.short)) in (
      subst (RowsLead form all) (sym walk)
          (subst (λ m. PartsLead form all (parts_from (keeps i) i 0 m ps)) long inner.1, subst (λ m. RowsLead form all (rows_from i 0 m ps)) long inner.0),
      (e, ap (λ l. lit_at l form) here ∙ led),
    )

abbrev Level : Bindings → Type 0
Level b = LitElement-F (Child b) ((e : LitElement) × ElementLeads b e)

level_leads : (b : Bindings) (y : Level b) → ElementLeads b (roll-LitElement (record { name = y.name; attributes = y.attributes; children = map (λ c. c.0) y.children }))
level_leads b y = element_leads b (roll-LitElement (record { name = y.name; attributes = y.attributes; children = map (λ c. c.0) y.children })) y.children refl

lit_leads : (b : Bindings) (y : Lit-F (Child b) ((e : LitElement) × ElementLeads b e)) → Leads b (roll-Lit (map-Lit (Child b) ((e : LitElement) × ElementLeads b e) Lit LitElement (λ c. c.0) (λ c. c.0) y))
lit_leads b (Lit-F.Text t) = inl (t, rolls-Text t)
lit_leads b (Lit-F.Element e) = inr (e.0, rolls-Element e.0, e.1)

leads : (b : Bindings) (x : Lit) → Leads b x
leads b = ind-Lit (Leads b) (ElementLeads b) (λ x y is. subst (λ z. Leads b (roll-Lit z)) is (lit_leads b y)) (λ x y is. subst (λ z. ElementLeads b (roll-LitElement z)) is (level_leads b y))

of_lit : (b : Bindings) (lit : Lit) (all : List Seen) → all ≡ rows_of b lit → Leads b lit → RowsLead lit all all
of_lit b lit all is (inl h) =
    let nothing : all ≡ [] = is ∙ ap (λ p. rows_in p at_root 0 0) (ap (piece_of b) h.1 ∙ piece_of-Text b h.0) in
    subst (RowsLead lit all) (sym nothing) tt
of_lit b lit all is (inr h) =
    let walked : all ≡ walk_of b h.0 at_root 0 0 = is ∙ ap (λ p. rows_in p at_root 0 0) (ap (piece_of b) h.1 ∙ piece_of-Element b h.0) in
    let whole : [] ++ (walk_of b h.0 at_root 0 0 ++ []) ≡ all = append-nil (walk_of b h.0 at_root 0 0) ∙ sym walked in
    subst (RowsLead lit all) (sym walked) (h.2 lit all at_root 0 [] [] [] whole (root_stands all) (ap Some h.1)).0

-- ---- instances

count_cons : (p : Part) (ps : List Part) → count_by is_element (p ∷ ps) ≡ one_where (is_element p) + count_by is_element ps
count_cons p ps =
    let split : count_by is_element (p ∷ ps) ≡ (0 + one_where (is_element p)) + count_by is_element ps = sum_by-append (λ x. one_where (is_element x)) (p ∷ []) ps in
    omega (arith, split)

no_document : (ps : List Part) → document_in ps ≡ None → count_by is_element ps ≡ 0
no_document [] h = refl
no_document (part.Text t ∷ ps) h = let more = count_cons (part.Text t) ps in let rest = no_document ps h in omega (arith, more, rest)
no_document (part.Element place ∷ ps) h = cc

lead_of : (form : Lit) (all : List Seen) (ps : List Part) (place : ℕ) → PartsLead form all ps → document_in ps ≡ Some place → PartLeads form all (part.Element place)
lead_of form all [] place led h = absurd (cc)
lead_of form all (part.Text t ∷ ps) place led h = lead_of form all ps place led.1 h
lead_of form all (part.Element own ∷ ps) place led h = let same : own ≡ place = cc in subst (λ p. PartLeads form all (part.Element p)) same led.0

by_document : (form : Lit) (all : List Seen) (place : ℕ) (r : Seen) (o : Option ℕ) → document_in r.parts ≡ o → count_by is_element r.parts ≡ 1 → PartsLead form all r.parts → HasDocument form (instance_by all place r o)
by_document form all place r None is one led = let nothing = no_document r.parts is in absurd (omega (arith, one, nothing))
by_document form all place r (Some document) is one led = lead_of form all r.parts document led is

true_from : (c : Bool) → not c ≡ false → c ≡ true
true_from true h = refl
true_from false h = cc

row_document : (d : ℕ) (b : Bindings) (form : Lit) (all : List Seen) (m : Option ℕ) (place : ℕ) (r : Seen) → refusal_at d b all m place r ≡ None → is_of class.Instance r ≡ true → PartsLead form all r.parts → HasDocument form (instance_of all place r)
row_document d b form all m place r none holds led =
    let known = known_in b r.attributes in
    let kind = and_parts (is_numbered r) (is_instance r.tag) holds in
    let outside = and_parts (is_outside r.standing.zone) _ kind.0 in
    let own : own_refusal d b all m place r ≡ None = sym (cond-true (is_outside r.standing.zone) (own_refusal d b all m place r) None outside.0) ∙ unless_none _ _ none in
    let model = if_none (lacks_model all m place r) 6 _ own in
    let good = if_none (list_any (is_bad_expression d b r.tag) known) 7 _ model.1 in
    let still = if_none (list_any (is_moving_expression d b r.tag) known) 8 _ good.1 in
    let placed = if_none (is_misplaced all r) 9 _ still.1 in
    let outer = or_parts (not (may_stand r.tag r.standing.around) || (is_instance r.tag && not (count_by is_element r.parts == 1))) (is_switch r.tag && not (list_any (is_case_in all) r.parts)) placed.0 in
    let inner = or_parts (not (may_stand r.tag r.standing.around)) (is_instance r.tag && not (count_by is_element r.parts == 1)) outer.0 in
    let counted : not (count_by is_element r.parts == 1) ≡ false = ap (λ x. x && not (count_by is_element r.parts == 1)) (sym kind.1) ∙ inner.1 in
    let one : count_by is_element r.parts ≡ 1 = eqb-true (count_by is_element r.parts) 1 (true_from (count_by is_element r.parts == 1) counted) in
    by_document form all place r (document_in r.parts) refl one led

joined : (form : Lit) (c : Bool) (x : Instance) (rest : List Instance) → (c ≡ true → HasDocument form x) → HaveDocuments form rest → HaveDocuments form (cond c (x ∷ []) [] ++ rest)
joined form true x rest one more = (one refl, more)
joined form false x rest one more = more

documents : (d : ℕ) (b : Bindings) (form : Lit) (all : List Seen) (m : Option ℕ) (place : ℕ) (rs : List Seen) → first_from d b all m place rs ≡ None → RowsLead form all rs → HaveDocuments form (each_from class.Instance (instance_of all) place rs)
documents d b form all m place [] none led = tt
documents d b form all m place (r ∷ rs) none led =
    let parts = later_none place (refusal_at d b all m place r) (first_from d b all m (suc place) rs) none in
    joined form (is_of class.Instance r) (instance_of all place r) (each_from class.Instance (instance_of all) (suc place) rs) (λ holds. row_document d b form all m place r parts.0 holds led.0)
    (documents d b form all m (suc place) rs parts.1 led.1)

pub loaded_documents : LoadedDocuments
loaded_documents bytes loaded is =
    let came = came_by bytes loaded is in
    let b = loaded.prefixes in
    let all = rows_of b loaded.lit in
    subst (λ f. HaveDocuments loaded.lit f.tables.instances) (sym came.form)
    (documents (decimals_of b all) b loaded.lit all (first_model all) 0 all (none_said all (first_refusal b all) came.unrefused) (of_lit b loaded.lit all refl (leads b loaded.lit)))
