-- The documents of a form that is loaded have no empty texts: an empty text below an element is no node.
use Rattle.std.proofs.Common.{◌≡◌, ℕ, suc, ◌==◌, Bool, true, false, not, cond, ◌&&◌, List, [], ◌∷◌, ◌++◌, map, flat_map, length, Some, Result, Ok, Err, refl, sym, ap, subst, arith}
use Rattle.std.specs.List.{list_any, list_all, filter_map, cons_option}
use Rattle.std.proofs.lemmas.Bool.Decides.{nat_tests}
use Rattle.xf_name.specs.Part.{Kind, no_declaration, kind_of}
use Rattle.xf_name.specs.Bindings.{Bindings, resolved}
use Rattle.xf_name.specs.declared.lit.Pair.{Pair}
use Rattle.xf_name.specs.declared.lit.Lit.{Lit}
use Rattle.xf_name.specs.declared.lit.Lit.TheVariants.{Element}
use Rattle.xf_name.specs.declared.lit.Lit.TheOpen.{Lit-F, LitElement-F}
use Rattle.xf_name.specs.declared.lit.Lit.TheFolds.{fold-roll-Lit, fold-roll-LitElement, map-Lit, ind-LitElement}
use Rattle.xf_name.specs.declared.lit.Lit.TheViews.{roll-Lit, roll-LitElement}
use Rattle.xf_name.specs.declared.lit.LitElement.{LitElement, fold-LitElement}
use Rattle.xf_name.specs.declared.qname.QName.{QName}
use Rattle.xf_name.specs.declared.fault.NameFault.{NameFault}
use Rattle.xf_def_syntax.specs.declared.form.Instance.{Instance}
use Rattle.xf_def_forest.specs.declared.content.Content.{Content}
use Rattle.xf_def_forest.specs.declared.content.Content.TheVariants.{Text}
use Rattle.xf_def_forest.specs.Forest.{is_text, own_text}
use Rattle.xf_def_forest.specs.Plant.{Contents, default_below, text_contents, lit_contents, element_contents, contents_of, attribute_by, attribute_in, is_less, written_of, in_place, in_order, at_depth}
use Rattle.xf_form.specs.declared.fault.FormFault.{FormFault}
use Rattle.xf_form.specs.declared.loaded.Loaded.{Loaded}
use Rattle.xf_form.specs.Documents.{HasDocument, HaveDocuments}
use Rattle.xf_form.specs.Loading.{loaded_in}
use Rattle.xf_form.proofs.DocumentLaw.{loaded_documents}
use Rattle.xf_def_machine.specs.Program.{Program}
use Rattle.xf_def_form.specs.Formed.{contents_in, document_of, program_in}
use Rattle.xf_law_machine.specs.Rest.Rests.{is_empty, are_filled, is_filled}
use Rattle.xf_law_machine.proofs.RestLemmas.FilledLaws.{neither, or-parts}
use Rattle.xf_def_sessions.specs.Counts.{FormsAreFilled}
use Rattle.xf_def_sessions.specs.Usual.{loaded_program, usual}

abbrev is_empty_content : Content → Bool
is_empty_content c = is_text c && (length (own_text c) == 0)

abbrev Full : List (ℕ × Content) → Type 0
Full contents = list_any is_empty contents ≡ false

full-append : (xs ys : List (ℕ × Content)) → Full xs → Full ys → Full (xs ++ ys)
full-append [] ys h k = k
full-append (x ∷ xs) ys h k = let parts = or-parts (is_empty x) (list_any is_empty xs) h in neither (is_empty x) (list_any is_empty (xs ++ ys)) parts.0 (full-append xs ys parts.1 k)

full-depth : (depth : ℕ) (cs : List Content) → list_any is_empty_content cs ≡ false → Full (at_depth depth cs)
full-depth depth [] h = refl
full-depth depth (c ∷ cs) h = let parts = or-parts (is_empty_content c) (list_any is_empty_content cs) h in neither (is_empty_content c) (list_any is_empty (at_depth depth cs)) parts.0 (full-depth depth cs parts.1)

full-place : (c : Content) (cs : List Content) → is_empty_content c ≡ false → list_any is_empty_content cs ≡ false → list_any is_empty_content (in_place c cs) ≡ false
full-place c [] h k = neither (is_empty_content c) false h refl
full-place c (x ∷ xs) h k =
    let parts = or-parts (is_empty_content x) (list_any is_empty_content xs) k in
    by (is_less (written_of x) (written_of c)) parts.0 (full-place c xs h parts.1)
  where
    by : (b : Bool) → is_empty_content x ≡ false → list_any is_empty_content (in_place c xs) ≡ false → list_any is_empty_content (cond b (x ∷ in_place c xs) (c ∷ x ∷ xs)) ≡ false
    by true e f = neither (is_empty_content x) (list_any is_empty_content (in_place c xs)) e f
    by false e f = neither (is_empty_content c) (list_any is_empty_content (x ∷ xs)) h k

full-order : (cs : List Content) → list_any is_empty_content cs ≡ false → list_any is_empty_content (in_order cs) ≡ false
full-order [] h = refl
full-order (c ∷ cs) h = let parts = or-parts (is_empty_content c) (list_any is_empty_content cs) h in full-place c (in_order cs) parts.0 (full-order cs parts.1)

-- ---- texts and elements

abbrev FullBelow : Contents → Type 0
FullBelow w = (space depth : ℕ) → Full (w space (suc depth))

text-full : (text : List ℕ) → FullBelow (text_contents text)
text-full [] space depth = by (suc depth == 0) (grind (arith, nat_tests))
  where
    by : (b : Bool) → b ≡ false → Full (cond b (at_depth 0 (Text [] ∷ [])) [])
    by true h = cc
    by false h = refl
text-full (c ∷ cs) space depth = neither (length (c ∷ cs) == 0) false (grind (arith, nat_tests)) refl

abbrev FullAt : Contents → Type 0
FullAt w = (space depth : ℕ) → Full (w space depth)

lit-attributes : (b : Bindings) (ps : List Pair) → list_any is_empty_content (filter_map (attribute_in b) ps) ≡ false
lit-attributes b [] = refl
lit-attributes b (p ∷ ps) = by (kind_of p.name) (resolved b p.name 0) (lit-attributes b ps)
  where
    by : (kind : Kind) (name : Result QName NameFault) → list_any is_empty_content (filter_map (attribute_in b) ps) ≡ false
        → list_any is_empty_content (cons_option (attribute_by b kind p.text name) (filter_map (attribute_in b) ps)) ≡ false
    by no_declaration (Ok name) h = h
    by no_declaration (Err fault) h = h
    by kind name h = h

lit-element : (b : Bindings) (e : LitElement-F Contents Contents) → ((space depth : ℕ) → Full (flat_map (λ child. child space (suc depth)) e.children)) → FullAt (element_contents b e)
lit-element b e below = λ space depth. full-append (at_depth (suc depth) (in_order (filter_map (attribute_in b) e.attributes)))
    (flat_map (λ child. child (default_below b space e.attributes) (suc depth)) e.children) (full-depth (suc depth) (in_order (filter_map (attribute_in b) e.attributes)) (full-order (filter_map (attribute_in b) e.attributes) (lit-attributes b e.attributes))) (below (default_below b space e.attributes) depth)

abbrev element_of : Bindings → LitElement → Contents
element_of b = fold-LitElement Contents Contents lit_contents (element_contents b)

abbrev LitBelow : Bindings → Type 0
LitBelow b = (x : Lit) × FullBelow (contents_of b x)

abbrev LitPart : Bindings → Type 0
LitPart b = (e : LitElement) × FullAt (element_of b e)

lit-children : (b : Bindings) (ys : List (LitBelow b)) (space depth : ℕ) → Full (flat_map (λ child. child space (suc depth)) (map (contents_of b) (map (λ y. y.0) ys)))
lit-children b [] space depth = refl
lit-children b (y ∷ ys) space depth = full-append (contents_of b y.0 space (suc depth)) (flat_map (λ child. child space (suc depth)) (map (contents_of b) (map (λ z. z.0) ys))) (y.1 space depth) (lit-children b ys space depth)

lit-level : (b : Bindings) (y : Lit-F (LitBelow b) (LitPart b)) → FullBelow (contents_of b (roll-Lit (map-Lit (LitBelow b) (LitPart b) Lit LitElement (λ c. c.0) (λ c. c.0) y)))
lit-level b (Lit-F.Text t) = subst FullBelow (sym (fold-roll-Lit Contents Contents lit_contents (element_contents b) (Lit-F.Text t))) (text-full t)
lit-level b (Lit-F.Element e) = subst FullBelow (sym (fold-roll-Lit Contents Contents lit_contents (element_contents b) (Lit-F.Element e.0))) (λ space depth. e.1 space (suc depth))

lit-part : (b : Bindings) (y : LitElement-F (LitBelow b) (LitPart b)) → FullAt (element_of b (roll-LitElement (record { name = y.name; attributes = y.attributes; children = map (λ c. c.0) y.children })))
lit-part b y =
    subst FullAt (sym (fold-roll-LitElement Contents Contents lit_contents (element_contents b) (record { name = y.name; attributes = y.attributes; children = map (λ c. c.0) y.children })))
    (lit-element b (record { name = y.name; attributes = y.attributes; children = map (contents_of b) (map (λ c. c.0) y.children) }) (lit-children b y.children))

element-full : (b : Bindings) (e : LitElement) → FullAt (element_of b e)
element-full b = ind-LitElement (λ x. FullBelow (contents_of b x)) (λ e. FullAt (element_of b e))
    (λ x y is. subst (λ z. FullBelow (contents_of b (roll-Lit z))) is (lit-level b y)) (λ x y is. subst (λ z. FullAt (element_of b (roll-LitElement z))) is (lit-part b y))

-- ---- the documents of a form

lit-full : (b : Bindings) (e : LitElement) (space : ℕ) → are_filled (contents_of b (Element e) space 0) ≡ true
unfolding roll-Lit denote.Hole.Carrier.roll
lit-full b e space = ap not (subst (λ (w : Contents). Full (w space 0)) (sym (fold-roll-Lit Contents Contents lit_contents (element_contents b) (Lit-F.Element e))) (element-full b e space 0))

document-full : (b : Bindings) (form : Lit) (i : Instance) → HasDocument form i → are_filled (document_of b form i) ≡ true
document-full b form i h = subst (λ o. are_filled (contents_in b i.space o) ≡ true) (sym h.1) (lit-full b h.0 i.space)

both : (a b : Bool) → a ≡ true → b ≡ true → (a && b) ≡ true
both a b h k = cc

documents-full : (b : Bindings) (form : Lit) (instances : List Instance) → HaveDocuments form instances → list_all are_filled (map (document_of b form) instances) ≡ true
documents-full b form [] h = refl
documents-full b form (i ∷ is) h = both (are_filled (document_of b form i)) (list_all are_filled (map (document_of b form) is)) (document-full b form i h.0) (documents-full b form is h.1)

loaded-full : (bytes : List ℕ) (r : Result Loaded FormFault) (form : Program) → loaded_in bytes ≡ r → loaded_program r ≡ Some form → is_filled form ≡ true
loaded-full bytes (Err fault) form e h = cc
loaded-full bytes (Ok l) form e h =
    let same : program_in l ≡ form = cc in
    subst (λ (x : Program). is_filled x ≡ true) same (documents-full l.prefixes l.lit l.form.tables.instances (loaded_documents bytes l e))

pub usual_filled : FormsAreFilled usual
usual_filled bytes form h = loaded-full bytes (loaded_in bytes) form refl h
