-- The copies of a plain form are those that come by handing down from its first element.
use Rattle.std.proofs.Common.{◌≡◌, ℕ, zero, suc, ◌+◌, ◌≤◌, true, List, [], ◌++◌, length, Option, Some, None, option_map, refl, sym, ap, ◌∙◌, arith}
use Rattle.std.specs.List.{flat_map}
use Rattle.std.specs.Prelude.{reverse}
use Rattle.xf_def_syntax.specs.declared.form.Form.{Form}
use Rattle.xf_def_syntax.specs.declared.form.Tables.{Tables}
use Rattle.xf_def_forest.specs.declared.content.Node.{Node}
use Rattle.xf_def_xpath.specs.Given.{Given}
use Rattle.xf_def_xpath.specs.Setting.{◌>>=◌, each}
use Rattle.std.proofs.lemmas.List.{length-map}
use Rattle.xf_def_ui.specs.Interface.{Interface, element_of, interface_of}
use Rattle.xf_def_ui.specs.Elements.{element_at, above, ancestors, elements_on}
use Rattle.xf_def_ui.specs.Around.{Around}
use Rattle.xf_def_ui.specs.Context.{entered}
use Rattle.xf_def_ui.specs.Index.{Index, if_named, index_of, named_indexes, seeing}
use Rattle.xf_def_ui.specs.Places.{places}
use Rattle.xf_def_ui.specs.declared.marks.Marks.{Marks}
use Rattle.xf_def_ui.specs.Copies.{Copy, copies}
use Rattle.xf_controls.specs.Plain.{is_plain}
use Rattle.xf_controls.specs.Surrounded.{IsQuiet, around_in}
use Rattle.xf_controls.specs.Handed.{Handed, first_handed}
use Rattle.xf_controls.specs.Below.{copies_from}
use Rattle.xf_controls.proofs.PlaceLaws.{places-plain}
use Rattle.xf_controls.proofs.PathLaws.{root_inside}
use Rattle.xf_controls.proofs.HandedLaws.{open_all}
use Rattle.xf_controls.proofs.BelowLaws.{Parents, Stands, copy_at, handed-down}
use Rattle.xf_controls.proofs.FormLaws.{parents-in, first-alone, repeats-none}

-- ---- what is seen with indexes of no repeat, outside an event

pub seeing-same : (f : Interface) (indexes : List Index) (given : Given) (tables : Tables) (nodes : List Node) → f.repeats ≡ [] → IsQuiet given → seeing f indexes (around_in given tables nodes) ≡ around_in given tables nodes
seeing-same f indexes given tables nodes none quiet =
    let a = around_in given tables nodes in
    let named : named_indexes f indexes ≡ [] = ap (flat_map (λ r. if_named (element_at f r).id (index_of f indexes r).index)) none in
    ap (λ i. record a { given = record a.given { indexes = i; event = None } }) (named ∙ sym quiet.indexes)
    ∙ ap (λ e. record a { given = record a.given { event = e } }) (sym quiet.event)

-- ---- the first element

above-none : (k : ℕ) (f : Interface) → above k f None ≡ []
above-none zero f = refl
above-none (suc k) f = refl

pub nothing-above : (f : Interface) → (element_at f 0).parent ≡ None → ancestors f 0 ≡ []
nothing-above f e = ap (above (length f.elements) f) e ∙ above-none (length f.elements) f

pub first-stands : (f : Interface) (a : Around) (marks : ℕ → Marks) → (element_at f 0).parent ≡ None → Stands f a marks first_handed 0
first-stands f a marks e =
    let none = nothing-above f e in record {
      given = ap (λ ns. entered f a (root_inside []) (elements_on f (reverse ns))) none;
      open_around = ap (open_all f a marks) none;
    }

-- ---- the whole

pub whole : (f : Interface) (a : Around) (marks : ℕ → Marks) (cases : List ℕ) → is_plain f ≡ true → Parents f → (element_at f 0).parent ≡ None
    → copies_from (length f.elements) f a marks first_handed 0 ≡ (places f a >>= each (copy_at f a marks cases))
whole f a marks cases plain parents first =
    let size = length f.elements in
    let short : length (ancestors f 0) + size ≤ size = let none : length (ancestors f 0) ≡ 0 = ap length (nothing-above f first) in omega (arith, none) in
    handed-down f a marks cases plain parents size 0 first_handed (first-stands f a marks first) short
    ∙ sym (ap (λ m. m >>= each (copy_at f a marks cases)) (places-plain f a plain size 0))

pub copies-are : (form : Form) (given : Given) (nodes : List Node) (marks : ℕ → Marks) (cases : List ℕ) (indexes : List Index) → is_plain (interface_of form) ≡ true → IsQuiet given
    → copies_from (length (interface_of form).elements) (interface_of form) (around_in given form.tables nodes) marks first_handed 0 ≡ copies (interface_of form) (around_in given form.tables nodes) marks cases indexes
copies-are form given nodes marks cases indexes plain quiet =
    let f = interface_of form in
    let a = around_in given form.tables nodes in
    whole f a marks cases plain (parents-in f plain) (first-alone f plain)
    ∙ sym (ap (λ b. places f b >>= each (copy_at f b marks cases)) (seeing-same f indexes given form.tables nodes (repeats-none f plain) quiet))

put-first : (m : Option (List Copy)) → option_map (λ more. [] ++ more) m ≡ m
put-first None = refl
put-first (Some xs) = refl

-- as a call begins it
pub begun-so : (form : Form) (given : Given) (nodes : List Node) (marks : ℕ → Marks) (cases : List ℕ) (indexes : List Index) (most : ℕ) (h : Handed) (old : List Copy) → is_plain (interface_of form) ≡ true → IsQuiet given
    → most ≡ length form.elements → h ≡ first_handed → old ≡ []
    → option_map (λ more. old ++ more) (copies_from most (interface_of form) (around_in given form.tables nodes) marks h 0) ≡ copies (interface_of form) (around_in given form.tables nodes) marks cases indexes
begun-so form given nodes marks cases indexes most h old plain quiet size first none =
    let f = interface_of form in
    let a = around_in given form.tables nodes in
    let whole_size : most ≡ length f.elements = size ∙ sym (length-map form.elements (element_of form.tables)) in
    ap (λ l. option_map (λ more. l ++ more) (copies_from most f a marks h 0)) none ∙ put-first (copies_from most f a marks h 0)
    ∙ ap (λ k. copies_from k f a marks h 0) whole_size ∙ ap (λ d. copies_from (length f.elements) f a marks d 0) first
    ∙ copies-are form given nodes marks cases indexes plain quiet
