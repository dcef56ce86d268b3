-- The walk of a form, level by level.
use Rattle.std.proofs.Common.{◌≡◌, ℕ, suc, List, [], ◌∷◌, ◌++◌, map, flat_map, Bor, refl, sym, ap, ◌∙◌, append_assoc}
use Rattle.xf_name.specs.Written.{Written, Walk, walk_of, walk_of_element, lit_walk, element_walk, default_below}
use Rattle.xf_name.specs.Shown.{shown, shown_by, walk_of_all, ShowsWalk}
use Rattle.xf_name.specs.declared.lit.Lit.{Lit}
use Rattle.xf_name.specs.declared.lit.Lit.TheOpen.{Lit-F}
use Rattle.xf_name.specs.declared.lit.Lit.TheFolds.{fold-roll-Lit, fold_out-LitElement}
use Rattle.xf_name.specs.declared.lit.Lit.TheVariants.{Text, Element, rolls-Text, rolls-Element}
use Rattle.xf_name.specs.declared.lit.LitElement.{LitElement}

-- the equations of the walk
pub walk_of-Text : (text : List ℕ) → walk_of (Text text) ≡ (λ above depth. [])
walk_of-Text text = ap walk_of (sym (rolls-Text text)) ∙ fold-roll-Lit Walk Walk lit_walk element_walk (Lit-F.Text text)

pub walk_of-Element : (e : LitElement) → walk_of (Element e) ≡ walk_of_element e
walk_of-Element e = ap walk_of (sym (rolls-Element e)) ∙ fold-roll-Lit Walk Walk lit_walk element_walk (Lit-F.Element e)

flat_map-map : (xs : List Lit) (above : List ℕ) (depth : ℕ) → flat_map (λ child. child above depth) (map walk_of xs) ≡ walk_of_all xs above depth
flat_map-map [] above depth = refl
flat_map-map (x ∷ xs) above depth = ap (λ es. walk_of x above depth ++ es) (flat_map-map xs above depth)

pub walk_of_element-is : (e : LitElement) (above : List ℕ) (depth : ℕ)
    → walk_of_element e above depth ≡ record { name = e.name; attributes = e.attributes; default = default_below above e.attributes; depth = depth } ∷ walk_of_all e.children (default_below above e.attributes) (suc depth)
walk_of_element-is e above depth =
    let own = default_below above e.attributes in
    let first : Written = record { name = e.name; attributes = e.attributes; default = own; depth = depth } in
    ap (λ w. w above depth) (fold_out-LitElement Walk Walk lit_walk element_walk e) ∙ ap (λ es. first ∷ es) (flat_map-map e.children own (suc depth))

map-push : {A B : Type 0} (f : A → B) (xs : List A) (x : A) → map f (xs ++ x ∷ []) ≡ map f xs ++ f x ∷ []
map-push f [] x = refl
map-push f (y ∷ ys) x = ap (λ l. f y ∷ l) (map-push f ys x)

-- an element goes before what is below it
pub element_shown : (old pushed new : List (Bor LitElement)) (e : Bor LitElement) → pushed ≡ old ++ e ∷ [] → ShowsWalk pushed new (walk_of_all e.now.children) → ShowsWalk old new (walk_of_element e.now)
element_shown old pushed new e is below = λ above depth.
    let own = default_below above e.now.attributes in
    below own (suc depth) ∙ ap (λ es. map shown_by es ++ map shown (walk_of_all e.now.children own (suc depth))) is
    ∙ ap (λ es. es ++ map shown (walk_of_all e.now.children own (suc depth))) (map-push shown_by old e)
    ∙ append_assoc (map shown_by old) (shown_by e ∷ []) (map shown (walk_of_all e.now.children own (suc depth)))
    ∙ ap (λ es. map shown_by old ++ map shown es) (sym (walk_of_element-is e.now above depth))

pub same_shown : (old new : List (Bor LitElement)) (lit : Lit) (e : LitElement) → lit ≡ Element e → ShowsWalk old new (walk_of_element e) → ShowsWalk old new (walk_of lit)
same_shown old new lit e is h = λ above depth. h above depth ∙ ap (λ w. map shown_by old ++ map shown (w above depth)) (sym (ap walk_of is ∙ walk_of-Element e))
