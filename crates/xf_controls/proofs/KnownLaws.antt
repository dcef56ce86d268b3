-- What is known of the nodes of elements serves a walk over the form.
use Rattle.std.proofs.Common.{◌≡◌, ℕ, zero, suc, ◌<◌, Bool, true, false, List, [], ◌∷◌, length, get_or, Option, Some, None, option_map, refl, sym, ap, ◌∙◌, subst, arith}
use Rattle.std.specs.Prelude.{slice_get}
use Rattle.std.proofs.lemmas.List.{length-map}
use Rattle.xf_def_syntax.specs.declared.element.Element as written
use Rattle.xf_def_syntax.specs.declared.element.Part.{Part}
use Rattle.xf_def_syntax.specs.declared.element.Part.TheVariants as part
use Rattle.xf_def_syntax.specs.declared.form.Form.{Form}
use Rattle.xf_def_forest.specs.declared.content.Node.{Node}
use Rattle.xf_def_forest.specs.declared.node.NodeId.{NodeId}
use Rattle.xf_def_xpath.specs.Setting.{◌>>=◌}
use Rattle.xf_def_ui.specs.declared.marks.Marks.{Marks}
use Rattle.xf_def_ui.specs.Interface.{Interface, element_of, interface_of, sort_of}
use Rattle.xf_def_ui.specs.Elements.{element_at, ancestors, is_control}
use Rattle.xf_def_ui.specs.Around.{Around}
use Rattle.xf_def_ui.specs.Context.{enter, inside}
use Rattle.xf_controls.specs.declared.known.Known.{Known}
use Rattle.xf_controls.specs.Handed.{Handed, first_handed, handed_by, inside_of, node_in}
use Rattle.xf_controls.specs.Known.{AreKnown, IsReached, KnowsNode, known_at, known_for}
use Rattle.xf_controls.specs.Plain.{is_plain}
use Rattle.xf_controls.proofs.BelowLaws.{EachChild, deeper}
use Rattle.xf_controls.proofs.CodeLaws.{this-element}
use Rattle.xf_controls.proofs.FormLaws.{first-alone, parents-in}
use Rattle.xf_controls.proofs.HandedLaws.{enter-is, node-is}
use Rattle.xf_controls.proofs.PathLaws.{ancestors-child, inside-child}
use Rattle.xf_controls.proofs.PlaceLaws.{plain-at}
use Rattle.xf_controls.proofs.WholeLaws.{first-stands, nothing-above}

-- ---- the node of an element

module _ (f : Interface) (a : Around) (nodes : List Node) (ks : List Known) (plain : is_plain f ≡ true) (known : AreKnown f a nodes ks) where
  knows : (h : Handed) (n : ℕ) → inside f a [] n ≡ Some (inside_of h) → KnowsNode nodes (known_for ks n (is_control (element_at f n).sort)) (node_in f a h (element_at f n))
  knows h n stands = by (is_control (element_at f n).sort) refl
    where
      of : is_control (element_at f n).sort ≡ true → (o : Option (Option NodeId)) → known_at ks n ≡ o → KnowsNode nodes o (node_in f a h (element_at f n))
      of e None i = tt
      of e (Some k) i = (sym (node-is f a n h plain e stands) ∙ known.node n k i, known.live n k i)

      by : (b : Bool) → is_control (element_at f n).sort ≡ b → KnowsNode nodes (known_for ks n b) (node_in f a h (element_at f n))
      by false e = tt
      by true e = of e (known_at ks n) refl

pub knows-here : (form : Form) (a : Around) (nodes : List Node) (ks : List Known) (h : Handed) (most n : ℕ) (e : written.Element) → is_plain (interface_of form) ≡ true → AreKnown (interface_of form) a nodes ks
    → IsReached (interface_of form) a h most n → Some e ≡ slice_get form.elements n
    → KnowsNode nodes (known_for ks n (is_control (sort_of e.kind))) (node_in (interface_of form) a h (element_of form.tables e))
knows-here form a nodes ks h most n e plain known reached found =
    let f = interface_of form in
    subst (λ x. KnowsNode nodes (known_for ks n (is_control x.sort)) (node_in f a h x)) (this-element form n e found) (knows f a nodes ks plain known h n reached.given)

-- nothing is known
nothing-at : (n : ℕ) → known_at [] n ≡ None
nothing-at zero = refl
nothing-at (suc n) = refl

none-known : {A : Type 0} (n : ℕ) (k : Option NodeId) → known_at [] n ≡ Some k → A
none-known n k e = let no : ◌≡◌ {A = Option (Option NodeId)} None (Some k) = sym (nothing-at n) ∙ e in cc no

pub nothing-known : (f : Interface) (a : Around) (nodes : List Node) (ks : List Known) → ks ≡ [] → AreKnown f a nodes ks
nothing-known f a nodes ks e = subst (AreKnown f a nodes) (sym e) (record { node = λ n k i. none-known n k i; live = λ n k i. none-known n k i })

-- ---- down the form

pub part-parent : (P : ℕ → Type 0) (ps : List Part) (i : ℕ) (p : Part) (m : ℕ) → EachChild P ps → i < length ps → p ≡ get_or ps i p → p ≡ part.Element m → P m
part-parent P [] i p m h l e is = absurd (omega (arith, l))
part-parent P (part.Text text ∷ ps) zero p m h l e is = let no : ◌≡◌ {A = Part} (part.Text text) (part.Element m) = sym e ∙ is in cc no
part-parent P (part.Text text ∷ ps) (suc i) p m h l e is = part-parent P ps i p m h (omega (arith, l)) e is
part-parent P (part.Element n ∷ ps) zero p m h l e is = let same : ◌≡◌ {A = Part} (part.Element n) (part.Element m) = sym e ∙ is in let k : n ≡ m = cc same in subst P k h.0
part-parent P (part.Element n ∷ ps) (suc i) p m h l e is = part-parent P ps i p m h.1 (omega (arith, l)) e is

reached-below : (f : Interface) (a : Around) (marks : ℕ → Marks) (h : Handed) (most n m : ℕ) (selected : Option ℕ) → is_plain f ≡ true → IsReached f a h (suc most) n → node_in f a h (element_at f n) ≡ Some selected → (element_at f m).parent ≡ Some n
    → IsReached f a (handed_by f marks h (element_at f n) selected) most m
reached-below f a marks h most n m selected plain reached bound parent =
    let e = element_at f n in
    let deep = reached.deep in
    let way = ancestors-child f n m parent (omega (arith, deep)) in
    record {
      given =
          inside-child f a [] n m way ∙ ap (λ t. t >>= λ s. enter f a s e) reached.given
          ∙ enter-is f a marks h e (plain-at f n plain) ∙ ap (option_map (λ k. inside_of (handed_by f marks h e k))) bound;
      deep = deeper f n m most way deep;
    }

-- as code comes to a part
pub reached-part : (form : Form) (a : Around) (marks : ℕ → Marks) (h below : Handed) (most k n : ℕ) (e : written.Element) (selected : Option ℕ) (ps : List Part) (i : ℕ) (p : Part) (m : ℕ) → is_plain (interface_of form) ≡ true
    → IsReached (interface_of form) a h most n → most ≡ suc k → Some e ≡ slice_get form.elements n → node_in (interface_of form) a h (element_of form.tables e) ≡ Some selected
    → below ≡ handed_by (interface_of form) marks h (element_of form.tables e) selected → ps ≡ e.parts → i < length ps → p ≡ get_or ps i p → p ≡ part.Element m
    → IsReached (interface_of form) a below k m
reached-part form a marks h below most k n e selected ps i p m plain reached more found bound down parts l is child =
    let f = interface_of form in
    let here = this-element form n e found in
    let all : EachChild (λ j. (element_at f j).parent ≡ Some n) e.parts = subst (λ x. EachChild (λ j. (element_at f j).parent ≡ Some n) x.parts) here (parents-in f plain n) in
    let parent = part-parent (λ j. (element_at f j).parent ≡ Some n) ps i p m (subst (EachChild (λ j. (element_at f j).parent ≡ Some n)) (sym parts) all) l is child in
    let one = reached-below f a marks h k n m selected plain (subst (λ j. IsReached f a h j n) more reached) (ap (node_in f a h) here ∙ bound) parent in
    subst (λ d. IsReached f a d k m) (ap (λ x. handed_by f marks h x selected) here ∙ sym down) one

-- as a walk begins
pub reached-first : (form : Form) (a : Around) (marks : ℕ → Marks) (h : Handed) (most : ℕ) → is_plain (interface_of form) ≡ true → most ≡ length form.elements → h ≡ first_handed → IsReached (interface_of form) a h most 0
reached-first form a marks h most plain size first =
    let f = interface_of form in
    let alone = first-alone f plain in
    let whole : most ≡ length f.elements = size ∙ sym (length-map form.elements (element_of form.tables)) in
    let none : length (ancestors f 0) ≡ 0 = ap length (nothing-above f alone) in
    subst (λ d. IsReached f a d most 0) (sym first) (record { given = (first-stands f a marks alone).given; deep = omega (arith, whole, none) })
