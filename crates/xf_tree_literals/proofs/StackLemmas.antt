-- Parts on a stack, the last one pushed first.
use Rattle.std.proofs.Common.{◌≡◌, ℕ, ◌+◌, ◌-◌, ◌<◌, true, false, List, [], ◌∷◌, ◌++◌, length, take, map, get_or, nat_lt, refl, sym, ap, ◌∙◌, arith, append_assoc}
use Rattle.std.proofs.lemmas.List.{append-nil, reverse-append, take_more}
use Rattle.std.proofs.Math.Seq.{take-length}
use Rattle.xf_def_forest.specs.Literal.{Part, attributes_in, trees_in, inner, outer}
use Rattle.xf_tree_literals.specs.declared.gather.Below.{Below}
use Rattle.xf_tree_literals.specs.declared.gather.Below.TheVariants as below
use Rattle.xf_tree_literals.specs.Print.{shown, stacked, begins_deeper}

-- one more is the first
pub stacked-more : {A T : Type 0} (xs : List (ℕ × Below A T)) (p : ℕ × Below A T) → stacked (xs ++ (p ∷ [])) ≡ (p.0, shown p.1) ∷ stacked xs
stacked-more xs p = ap (map (λ q. (q.0, shown q.1))) (reverse-append xs (p ∷ []))

-- the last of a list tells whether the first on the stack is deeper
pub last-deeper : {A T : Type 0} (xs : List (ℕ × Below A T)) (p : ℕ × Below A T) (depth : ℕ) → 0 < length xs → p ≡ get_or xs (length xs - 1) p → nat_lt depth p.0 ≡ begins_deeper depth (stacked xs)
last-deeper xs p depth some is =
    let i = length xs - 1 in
    let sum : i + 1 ≡ length xs = omega arith in
    let within : i < length xs = omega arith in
    let whole : xs ≡ take i xs ++ (p ∷ []) = sym (take-length xs) ∙ ap (λ k. take k xs) (sym sum) ∙ take_more xs i p within ∙ ap (λ y. take i xs ++ (y ∷ [])) (sym is) in
    sym (ap (λ l. begins_deeper depth (stacked l)) whole ∙ ap (begins_deeper depth) (stacked-more (take i xs) p))

-- ---- what is taken off

-- the last one is taken off, as it is deeper
deeper-is : {A T : Type 0} (depth : ℕ) (xs ys : List (ℕ × Below A T)) (p : ℕ × Below A T) → xs ≡ ys ++ (p ∷ []) → begins_deeper depth (stacked xs) ≡ true → nat_lt depth p.0 ≡ true
deeper-is depth xs ys p is deep = sym (ap (λ l. begins_deeper depth (stacked l)) is ∙ ap (begins_deeper depth) (stacked-more ys p)) ∙ deep

inner-taken : {A T : Type 0} (depth : ℕ) (xs ys : List (ℕ × Below A T)) (p : ℕ × Below A T) → xs ≡ ys ++ (p ∷ []) → begins_deeper depth (stacked xs) ≡ true → inner depth (stacked xs) ≡ shown p.1 ∷ inner depth (stacked ys)
inner-taken depth xs ys p is deep =
    let first : inner depth ((p.0, shown p.1) ∷ stacked ys) ≡ shown p.1 ∷ inner depth (stacked ys) = rw (deeper-is depth xs ys p is deep) refl in
    ap (λ l. inner depth (stacked l)) is ∙ ap (inner depth) (stacked-more ys p) ∙ first

pub outer-taken : {A T : Type 0} (depth : ℕ) (xs ys : List (ℕ × Below A T)) (p : ℕ × Below A T) → xs ≡ ys ++ (p ∷ []) → begins_deeper depth (stacked xs) ≡ true → outer depth (stacked xs) ≡ outer depth (stacked ys)
outer-taken depth xs ys p is deep =
    let first : outer depth ((p.0, shown p.1) ∷ stacked ys) ≡ outer depth (stacked ys) = rw (deeper-is depth xs ys p is deep) refl in
    ap (λ l. outer depth (stacked l)) is ∙ ap (outer depth) (stacked-more ys p) ∙ first

pub attribute-taken : {A T : Type 0} (depth : ℕ) (xs ys : List (ℕ × Below A T)) (d : ℕ) (a : A) (old new : List A) → xs ≡ ys ++ ((d, below.Attribute a) ∷ []) → begins_deeper depth (stacked xs) ≡ true → new ≡ old ++ (a ∷ [])
    → new ++ attributes_in (inner depth (stacked ys)) ≡ old ++ attributes_in (inner depth (stacked xs))
attribute-taken depth xs ys d a old new is deep pushed =
    let rest = attributes_in (inner depth (stacked ys)) in
    ap (λ l. l ++ rest) pushed ∙ append_assoc old (a ∷ []) rest ∙ sym (ap (λ l. old ++ attributes_in l) (inner-taken depth xs ys (d, below.Attribute a) is deep))

pub tree-taken : {A T : Type 0} (depth : ℕ) (xs ys : List (ℕ × Below A T)) (d : ℕ) (t : T) (old new : List T) → xs ≡ ys ++ ((d, below.Tree t) ∷ []) → begins_deeper depth (stacked xs) ≡ true → new ≡ old ++ (t ∷ [])
    → new ++ trees_in (inner depth (stacked ys)) ≡ old ++ trees_in (inner depth (stacked xs))
tree-taken depth xs ys d t old new is deep pushed =
    let rest = trees_in (inner depth (stacked ys)) in
    ap (λ l. l ++ rest) pushed ∙ append_assoc old (t ∷ []) rest ∙ sym (ap (λ l. old ++ trees_in l) (inner-taken depth xs ys (d, below.Tree t) is deep))

pub trees-kept : {A T : Type 0} (depth : ℕ) (xs ys : List (ℕ × Below A T)) (d : ℕ) (a : A) → xs ≡ ys ++ ((d, below.Attribute a) ∷ []) → begins_deeper depth (stacked xs) ≡ true → trees_in (inner depth (stacked xs)) ≡ trees_in (inner depth (stacked ys))
trees-kept depth xs ys d a is deep = ap trees_in (inner-taken depth xs ys (d, below.Attribute a) is deep)

pub attributes-kept : {A T : Type 0} (depth : ℕ) (xs ys : List (ℕ × Below A T)) (d : ℕ) (t : T) → xs ≡ ys ++ ((d, below.Tree t) ∷ []) → begins_deeper depth (stacked xs) ≡ true → attributes_in (inner depth (stacked xs)) ≡ attributes_in (inner depth (stacked ys))
attributes-kept depth xs ys d t is deep = ap attributes_in (inner-taken depth xs ys (d, below.Tree t) is deep)

-- none is deeper
pub inner-none : {P : Type 0} (depth : ℕ) (ps : List (ℕ × P)) → begins_deeper depth ps ≡ false → inner depth ps ≡ []
inner-none depth [] e = refl
inner-none depth (p ∷ ps) e = rw e refl

pub outer-all : {P : Type 0} (depth : ℕ) (ps : List (ℕ × P)) → begins_deeper depth ps ≡ false → outer depth ps ≡ ps
outer-all depth [] e = refl
outer-all depth (p ∷ ps) e = rw e refl

pub attributes-left : {A T : Type 0} (depth : ℕ) (ps : List (ℕ × Part A T)) (xs : List A) → begins_deeper depth ps ≡ false → xs ≡ xs ++ attributes_in (inner depth ps)
attributes-left depth ps xs e = sym (ap (λ l. xs ++ attributes_in l) (inner-none depth ps e) ∙ append-nil xs)

pub trees-left : {A T : Type 0} (depth : ℕ) (ps : List (ℕ × Part A T)) (xs : List T) → begins_deeper depth ps ≡ false → xs ≡ xs ++ trees_in (inner depth ps)
trees-left depth ps xs e = sym (ap (λ l. xs ++ trees_in l) (inner-none depth ps e) ∙ append-nil xs)
