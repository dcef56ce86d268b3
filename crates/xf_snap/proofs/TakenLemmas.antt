-- A tree that is read is spelled so, and is no deeper than it may be.
use Rattle.std.proofs.Common.{◌≡◌, ◌≤◌, ◌<◌, ℕ, zero, suc, ◌+◌, ◌-◌, ◌^◌, List, [], ◌∷◌, ◌++◌, length, Option, Some, None, refl, sym, ◌∙◌, ap, subst, arith}
use Rattle.std.specs.Prelude.{Bool, true, ◌&&◌, nat_lt}
use Rattle.std.specs.List.{flat_map, list_all, AllByRecursion}
use Rattle.std.proofs.lemmas.Bool.{and_from, le-leb}
use Rattle.xf_name.specs.declared.qname.QName.{QName}
use Rattle.xf_def_forest.specs.declared.bare.Bare.{Bare}
use Rattle.xf_def_forest.specs.declared.bare.Bare.TheVariants as bare
use Rattle.xf_def_forest.specs.declared.bare.Bare.TheViews.{roll-BareElement}
use Rattle.xf_def_forest.specs.declared.bare.BareElement.{BareElement}
use Rattle.xf_def_forest.specs.declared.bare.BareAttribute.{BareAttribute}
use Rattle.xf_snap.specs.Numbers.{two, four, from_two, from_four}
use Rattle.xf_snap.specs.Spelling.{text_bytes, name_bytes, attribute_bytes, tree_bytes, element_bytes}
use Rattle.xf_snap.specs.Within.{is_fit_name, is_fit_attribute, is_fit, is_fit_part, is_typed_name, is_typed_attribute, is_typed, is_typed_part}
use Rattle.xf_snap.specs.Reading.{◌>>=◌, Front, two_at, four_at, name_at, attribute_at, several, text_at, element_over, tree_over, element_at, tree_at}
use Rattle.xf_snap.proofs.NumberLemmas.{IsBytes, bytes-drop, Takes, bind_some, wide_two, wide_four, number_takes}
use Rattle.xf_snap.proofs.SeveralLemmas.{takes_then, Taken, several_take, each_all, each_in}
use Rattle.xf_snap.proofs.FieldLemmas.{some_is, text_takes, name_takes, IsAttribute, attribute_takes}
use Rattle.xf_snap.proofs.TreeLemmas.{Level, bytes-text, bytes-element, bytes-level, fit-text, fit-element, fit-level, typed-text, typed-element, typed-level}

abbrev pub IsTree : ℕ → Bare → Type 0
IsTree depth tree = (is_fit tree depth ≡ true) × (is_typed tree ≡ true)

abbrev pub IsElement : ℕ → BareElement → Type 0
IsElement depth e = (is_fit_part e depth ≡ true) × (is_typed_part e ≡ true)

-- an element over trees that are one less deep
over_taken : (depth : ℕ) (tree : List ℕ → Front Bare) → Taken tree_bytes tree (IsTree depth) → Taken element_bytes (element_over tree) (IsElement (suc depth))
unfolding element_over
over_taken depth tree below bytes x fits is =
    let a = bind_some (name_at bytes) (λ name. two_at name.1 >>= λ n. several attribute_at n.0 n.1 >>= λ attributes. four_at attributes.1 >>= λ m. several tree m.0 m.1 >>= λ children. Some (roll-BareElement (record { name = name.0; attributes = attributes.0; children = children.0 }), children.1)) x is in
    let b = bind_some (two_at a.0.1) (λ n. several attribute_at n.0 n.1 >>= λ attributes. four_at attributes.1 >>= λ m. several tree m.0 m.1 >>= λ children. Some (roll-BareElement (record { name = a.0.0; attributes = attributes.0; children = children.0 }), children.1)) x a.2 in
    let c = bind_some (several attribute_at b.0.0 b.0.1) (λ attributes. four_at attributes.1 >>= λ m. several tree m.0 m.1 >>= λ children. Some (roll-BareElement (record { name = a.0.0; attributes = attributes.0; children = children.0 }), children.1)) x b.2 in
    let d = bind_some (four_at c.0.1) (λ m. several tree m.0 m.1 >>= λ children. Some (roll-BareElement (record { name = a.0.0; attributes = c.0.0; children = children.0 }), children.1)) x c.2 in
    let e = bind_some (several tree d.0.0 d.0.1) (λ children. Some (roll-BareElement (record { name = a.0.0; attributes = c.0.0; children = children.0 }), children.1)) x d.2 in
    let t = name_takes bytes a.0 fits a.1 in
    let u = number_takes 2 two from_two (2 ^ 16) wide_two a.0.1 b.0 t.0.rest_fits b.1 in
    let v = several_take attribute_bytes attribute_at IsAttribute attribute_takes b.0.0 b.0.1 c.0 u.0.rest_fits c.1 in
    let w = number_takes 4 four from_four (2 ^ 32) wide_four c.0.1 d.0 v.0.rest_fits d.1 in
    let y = several_take tree_bytes tree (IsTree depth) below d.0.0 d.0.1 e.0 w.0.rest_fits e.1 in
    let level : Level = record { name = a.0.0; attributes = c.0.0; children = e.0.0 } in
    let rest = e.0.1 in
    let children = flat_map tree_bytes e.0.0 in
    let attributes = flat_map attribute_bytes c.0.0 in
    let wy = takes_then c.0.1 (four d.0.0) d.0.1 children rest w.0 y.0 in
    let vwy = takes_then b.0.1 attributes c.0.1 (four d.0.0 ++ children) rest v.0 wy in
    let uvwy = takes_then a.0.1 (two b.0.0) b.0.1 (attributes ++ (four d.0.0 ++ children)) rest u.0 vwy in
    let all = takes_then bytes (name_bytes a.0.0) a.0.1 (two b.0.0 ++ (attributes ++ (four d.0.0 ++ children))) rest t.0 uvwy in
    let counted : Takes bytes (name_bytes a.0.0 ++ (two (length c.0.0) ++ (attributes ++ (four (length e.0.0) ++ children)))) rest =
    subst (λ (n : ℕ). Takes bytes (name_bytes a.0.0 ++ (two n ++ (attributes ++ (four (length e.0.0) ++ children)))) rest) (sym v.1)
    (subst (λ (n : ℕ). Takes bytes (name_bytes a.0.0 ++ (two b.0.0 ++ (attributes ++ (four n ++ children)))) rest) (sym y.1) all) in
    let whole : Takes bytes (element_bytes (roll-BareElement level)) rest = subst (λ (l : List ℕ). Takes bytes l rest) (sym (bytes-level level)) counted in
    let fit_attributes = each_all is_fit_attribute c.0.0 (each_in IsAttribute (λ a. is_fit_attribute a ≡ true) c.0.0 (λ a h. h.0) v.2) in
    let fit_children = each_all (λ child. is_fit child depth) e.0.0 (each_in (IsTree depth) (λ child. is_fit child depth ≡ true) e.0.0 (λ child h. h.0) y.2) in
    let typed_attributes = each_all is_typed_attribute c.0.0 (each_in IsAttribute (λ a. is_typed_attribute a ≡ true) c.0.0 (λ a h. h.1) v.2) in
    let typed_children = each_all is_typed e.0.0 (each_in (IsTree depth) (λ child. is_typed child ≡ true) e.0.0 (λ child h. h.1) y.2) in
    let one_less : suc depth - 1 ≡ depth = omega arith in
    let fit : is_fit_part (roll-BareElement level) (suc depth) ≡ true =
    fit-level level (suc depth)
    ∙ ap (λ (k : ℕ). nat_lt 0 (suc depth) && is_fit_name a.0.0 && list_all is_fit_attribute c.0.0 && list_all (λ child. is_fit child k) e.0.0) one_less
    ∙ and_from (nat_lt 0 (suc depth) && is_fit_name a.0.0 && list_all is_fit_attribute c.0.0) (list_all (λ child. is_fit child depth) e.0.0)
    (and_from (nat_lt 0 (suc depth) && is_fit_name a.0.0) (list_all is_fit_attribute c.0.0) (and_from (nat_lt 0 (suc depth)) (is_fit_name a.0.0) (le-leb 1 (suc depth) (omega arith)) t.1.0) fit_attributes) fit_children in
    let typed : is_typed_part (roll-BareElement level) ≡ true =
    typed-level level ∙ and_from (is_typed_name a.0.0 && list_all is_typed_attribute c.0.0) (list_all is_typed e.0.0) (and_from (is_typed_name a.0.0) (list_all is_typed_attribute c.0.0) t.1.1 typed_attributes) typed_children in
    subst (λ (z : BareElement × List ℕ). Takes bytes (element_bytes z.0) z.1 × IsElement (suc depth) z.0) (some_is (roll-BareElement level, rest) x e.2) (whole, (fit, typed))

-- a byte before what was read
one_more : (byte : ℕ) (bytes text rest : List ℕ) → Takes bytes text rest → Takes (byte ∷ bytes) (byte ∷ text) rest
one_more byte bytes text rest t = record { parts = ap (λ (l : List ℕ). byte ∷ l) t.parts; rest_fits = t.rest_fits }

tree_taken : (depth : ℕ) (element : List ℕ → Front BareElement) → Taken element_bytes element (IsElement depth) → Taken tree_bytes (tree_over element) (IsTree depth)
unfolding tree_over
tree_taken depth element below [] x fits is = cc
tree_taken depth element below (zero ∷ bytes) x fits is =
    let a = bind_some (element bytes) (λ top. Some (bare.Element top.0, top.1)) x is in
    let t = below bytes a.0 (bytes-drop 1 (0 ∷ bytes) fits) a.1 in
    let tree = bare.Element a.0.0 in
    let whole : Takes (0 ∷ bytes) (tree_bytes tree) a.0.1 = subst (λ (l : List ℕ). Takes (0 ∷ bytes) l a.0.1) (sym (bytes-element a.0.0)) (one_more 0 bytes (element_bytes a.0.0) a.0.1 t.0) in
    subst (λ (z : Bare × List ℕ). Takes (0 ∷ bytes) (tree_bytes z.0) z.1 × IsTree depth z.0) (some_is (tree, a.0.1) x a.2) (whole, (fit-element a.0.0 depth ∙ t.1.0, typed-element a.0.0 ∙ t.1.1))
tree_taken depth element below (suc zero ∷ bytes) x fits is =
    let a = bind_some (text_at bytes) (λ text. Some (bare.Text text.0, text.1)) x is in
    let t = text_takes bytes a.0 (bytes-drop 1 (1 ∷ bytes) fits) a.1 in
    let tree = bare.Text a.0.0 in
    let whole : Takes (1 ∷ bytes) (tree_bytes tree) a.0.1 = subst (λ (l : List ℕ). Takes (1 ∷ bytes) l a.0.1) (sym (bytes-text a.0.0)) (one_more 1 bytes (text_bytes a.0.0) a.0.1 t.0) in
    subst (λ (z : Bare × List ℕ). Takes (1 ∷ bytes) (tree_bytes z.0) z.1 × IsTree depth z.0) (some_is (tree, a.0.1) x a.2) (whole, (fit-text a.0.0 depth ∙ t.1.0, typed-text a.0.0 ∙ t.1.1))
tree_taken depth element below (suc (suc kind) ∷ bytes) x fits is = cc

element_taken : (depth : ℕ) → Taken element_bytes (element_at depth) (IsElement depth)
unfolding element_at
element_taken zero bytes x fits is = cc
element_taken (suc depth) bytes x fits is = over_taken depth (tree_over (element_at depth)) (tree_taken depth (element_at depth) (element_taken depth)) bytes x fits is

pub trees_taken : (depth : ℕ) → Taken tree_bytes (tree_at depth) (IsTree depth)
trees_taken depth = tree_taken depth (element_at depth) (element_taken depth)
