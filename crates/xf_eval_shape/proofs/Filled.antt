-- What a filter keeps of a list into which texts are put, and what is found there.
use Rattle.std.proofs.Common.{◌≡◌, ℕ, ◌==◌, Bool, true, false, cond, List, [], ◌∷◌, ◌++◌, Some, None, refl, sym, ap, ◌∙◌, subst}
use Rattle.std.specs.Prelude.{filter}
use Rattle.std.specs.List.{flat_map}
use Rattle.xf_def_forest.specs.Visit.{Visit}
use Rattle.xf_def_forest.specs.Shape.{is_borne, filled}
use Rattle.xf_def_xpath.specs.Asked.{found}
use Rattle.xf_def_xpath.proofs.VisitFacts.{filter-append}
use Rattle.xf_def_xpath.proofs.ForestVisits.{Each}

pub append-none : {X : Type 0} (xs : List X) → xs ++ [] ≡ xs
append-none [] = refl
append-none (x ∷ xs) = ap (λ l. x ∷ l) (append-none xs)

-- ---- what a filter keeps

-- attributes are kept by no filter that is asked here, and nothing is put into them
module _ (q : Visit → Bool) (g : Visit → List Visit) (outside : (y : Visit) → is_borne y ≡ true → (q y ≡ false) × (g y ≡ [])) where
  abbrev pub pieces : Visit → List Visit
  pieces y = filter q (y ∷ g y)

  none-of : (y : Visit) → is_borne y ≡ true → pieces y ≡ []
  none-of y h = ap (λ l. filter q (y ∷ l)) (outside y h).1 ∙ ap (λ b. cond b (y ∷ []) []) (outside y h).0

  pub filtered-filled : (ws ys : List Visit) → filter q (filled g ws ys) ≡ filter q ws ++ flat_map pieces ys
  filtered-filled ws [] = sym (append-none (filter q ws))
  filtered-filled ws (y ∷ ys) = by (is_borne y) refl (filtered-filled ws ys) (filtered-filled (g y) ys)
    where
      rest : List Visit
      rest = flat_map pieces ys

      put : (b : Bool) → filter q (filled g (g y) ys) ≡ filter q (g y) ++ rest → cond b (y ∷ filter q (filled g (g y) ys)) (filter q (filled g (g y) ys)) ≡ cond b (y ∷ filter q (g y)) (filter q (g y)) ++ rest
      put true h = ap (λ l. y ∷ l) h
      put false h = h

      by : (b : Bool) → is_borne y ≡ b → filter q (filled g ws ys) ≡ filter q ws ++ rest → filter q (filled g (g y) ys) ≡ filter q (g y) ++ rest →
          filter q (cond b (y ∷ filled g ws ys) (ws ++ y ∷ filled g (g y) ys)) ≡ filter q ws ++ (pieces y ++ rest)
      by true e h k =
          ap (λ b. cond b (y ∷ filter q (filled g ws ys)) (filter q (filled g ws ys))) (outside y e).0
          ∙ h
          ∙ sym (ap (λ l. filter q ws ++ (l ++ rest)) (none-of y e))
      by false e h k =
          filter-append q ws (y ∷ filled g (g y) ys)
          ∙ ap (λ l. filter q ws ++ l) (put (q y) k)

-- what keeps no text that is put in keeps what the list had
module _ (q : Visit → Bool) (g : Visit → List Visit) (none : (y : Visit) → filter q (g y) ≡ []) where
  pub unfilled : (ws ys : List Visit) → filter q ws ≡ [] → filter q (filled g ws ys) ≡ filter q ys
  unfilled ws [] e = e
  unfilled ws (y ∷ ys) e = by (is_borne y) (unfilled ws ys e) (unfilled (g y) ys (none y))
    where
      by : (b : Bool) → filter q (filled g ws ys) ≡ filter q ys → filter q (filled g (g y) ys) ≡ filter q ys →
          filter q (cond b (y ∷ filled g ws ys) (ws ++ y ∷ filled g (g y) ys)) ≡ filter q (y ∷ ys)
      by true h k = ap (λ l. cond (q y) (y ∷ l) l) h
      by false h k =
          filter-append q ws (y ∷ filled g (g y) ys)
          ∙ ap (λ l. l ++ filter q (y ∷ filled g (g y) ys)) e
          ∙ ap (λ l. cond (q y) (y ∷ l) l) k

-- ---- what is found

found-behind : (k : ℕ) (ws ys : List Visit) → found k ws ≡ None → found k (ws ++ ys) ≡ found k ys
found-behind k [] ys e = refl
found-behind k (w ∷ ws) ys e = by (w.number == k) e (found-behind k ws ys)
  where
    by : (b : Bool) → cond b (Some w) (found k ws) ≡ None → (found k ws ≡ None → found k (ws ++ ys) ≡ found k ys) → cond b (Some w) (found k (ws ++ ys)) ≡ found k ys
    by true h i = cc h
    by false h i = i h

pub found-filled : (k : ℕ) (g : Visit → List Visit) → ((y : Visit) → found k (g y) ≡ None) → (ws ys : List Visit) → found k ws ≡ None → found k (filled g ws ys) ≡ found k ys
found-filled k g none ws [] e = e
found-filled k g none ws (y ∷ ys) e = by (is_borne y) (found-filled k g none ws ys e) (found-filled k g none (g y) ys (none y))
  where
    by : (b : Bool) → found k (filled g ws ys) ≡ found k ys → found k (filled g (g y) ys) ≡ found k ys → found k (cond b (y ∷ filled g ws ys) (ws ++ y ∷ filled g (g y) ys)) ≡ cond (y.number == k) (Some y) (found k ys)
    by true h i = ap (λ m. cond (y.number == k) (Some y) m) h
    by false h i = found-behind k ws (y ∷ filled g (g y) ys) e ∙ ap (λ m. cond (y.number == k) (Some y) m) i

-- ---- each item

each-first : (P : Visit → Type 0) (xs ys : List Visit) → Each P (xs ++ ys) → Each P xs × Each P ys
each-first P [] ys h = (tt, h)
each-first P (x ∷ xs) ys h = let r = each-first P xs ys h.1 in ((h.0, r.0), r.1)

each-both : (P : Visit → Type 0) (xs ys : List Visit) → Each P xs → Each P ys → Each P (xs ++ ys)
each-both P [] ys h k = k
each-both P (x ∷ xs) ys h k = (h.0, each-both P xs ys h.1 k)

-- what holds of each node and each text that is put in holds of the whole
pub each-filled : (P : Visit → Type 0) (g : Visit → List Visit) (ws ys : List Visit) → Each P ws → Each (λ y. P y × Each P (g y)) ys → Each P (filled g ws ys)
each-filled P g ws [] h k = h
each-filled P g ws (y ∷ ys) h k = by (is_borne y) (each-filled P g ws ys h k.1) (each-filled P g (g y) ys k.0.1 k.1)
  where
    by : (b : Bool) → Each P (filled g ws ys) → Each P (filled g (g y) ys) → Each P (cond b (y ∷ filled g ws ys) (ws ++ y ∷ filled g (g y) ys))
    by true i j = (k.0.0, i)
    by false i j = each-both P ws (y ∷ filled g (g y) ys) h (k.0.0, j)

-- and what holds of the whole holds of each node and each text that is put in
pub each-unfilled : (P : Visit → Type 0) (g : Visit → List Visit) → ((y : Visit) → is_borne y ≡ true → g y ≡ []) → (ws ys : List Visit) → Each P (filled g ws ys) → Each P ws × Each (λ y. P y × Each P (g y)) ys
each-unfilled P g attributes ws [] h = (h, tt)
each-unfilled P g attributes ws (y ∷ ys) h = by (is_borne y) refl h (each-unfilled P g attributes ws ys) (each-unfilled P g attributes (g y) ys)
  where
    by : (b : Bool) → is_borne y ≡ b → Each P (cond b (y ∷ filled g ws ys) (ws ++ y ∷ filled g (g y) ys)) →
        (Each P (filled g ws ys) → Each P ws × Each (λ z. P z × Each P (g z)) ys) → (Each P (filled g (g y) ys) → Each P (g y) × Each (λ z. P z × Each P (g z)) ys) →
        Each P ws × ((P y × Each P (g y)) × Each (λ z. P z × Each P (g z)) ys)
    by true e i j k = let r = j i.1 in (r.0, ((i.0, subst (Each P) (sym (attributes y e)) tt), r.1))
    by false e i j k =
        let p = each-first P ws (y ∷ filled g (g y) ys) i in
        let r = k p.1.1 in
        (p.0, ((p.1.0, r.0), r.1))

pub each-kept_none : {X : Type 0} (q : X → Bool) (xs : List X) → Each (λ x. q x ≡ false) xs → filter q xs ≡ []
each-kept_none q [] h = refl
each-kept_none q (x ∷ xs) h = ap (λ b. cond b (x ∷ filter q xs) (filter q xs)) h.0 ∙ each-kept_none q xs h.1
