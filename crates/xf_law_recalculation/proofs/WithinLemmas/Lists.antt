-- What is asked from a node of the part: the nodes that are read there, and the lists that are looked at, are those over the whole list.
use Rattle.std.proofs.Common.{◌≡◌, ℕ, ◌==◌, Bool, true, false, cond, List, [], ◌∷◌, Option, Some, None, refl, ap, ◌∙◌}
use Rattle.std.specs.Prelude.{unwrap_or}
use Rattle.xf_name.specs.declared.axis.Axis.{Axis}
use Rattle.xf_name.specs.declared.axis.Axis.TheVariants.{Child, Attribute, Self_, Parent, Ancestor, AncestorOrSelf, Descendant, DescendantOrSelf, FollowingSibling, PrecedingSibling}
use Rattle.xf_def_forest.specs.Forest.{is_text}
use Rattle.xf_def_forest.specs.Visit.{Visit, has, first_of}
use Rattle.xf_def_xpath.specs.Asked.{found, reader_of, read_for}
use Rattle.xf_def_xpath.specs.AskedSteps.{lists_of, kind_read, if_text, text_beside}
use Rattle.xf_def_xpath.proofs.VisitFacts.{self-same, or-left, found-number}
use Rattle.xf_def_xpath.proofs.ForestVisits.{Each}
use Rattle.xf_law_recalculation.specs.Within.Within.{Whole, kept}
use Rattle.xf_law_recalculation.proofs.WithinLemmas.Within.{In, found-kept, around-same, around-in, below-same, below-in, up-in}

module _ (p : ℕ → Bool) (all : List Visit) (whole : Each (Whole p) all) where
  pub read-same : (n : ℕ) → p n ≡ true → read_for (kept p all) n ≡ read_for all n
  read-same n h = ap reader_of (found-kept p n all h)

  pub read-in : (n : ℕ) → p n ≡ true → In p (read_for all n)
  read-in n h = by (found n all) refl
    where
      of : (x : Visit) → p x.number ≡ true → (ns : List ℕ) → ((k : ℕ) → has k ns ≡ true → p k ≡ true) → (b : Bool) → p (cond b (unwrap_or (first_of ns) x.number) x.number) ≡ true
      of x i ns k false = i
      of x i [] k true = i
      of x i (m ∷ ms) k true = k m (or-left (m == m) (has m ms) (self-same m))

      by : (m : Option Visit) → found n all ≡ m → In p (reader_of m)
      by None e = tt
      by (Some x) e = (of x (ap p (found-number n all x e) ∙ h) x.above (up-in p all whole n x e h) (is_text x.content), tt)

  pub lists-same : (axis : Axis) (n : ℕ) → p n ≡ true → lists_of axis (kept p all) n ≡ lists_of axis all n
  lists-same Child n h = refl
  lists-same Attribute n h = refl
  lists-same Self_ n h = refl
  lists-same Parent n h = refl
  lists-same Ancestor n h = refl
  lists-same AncestorOrSelf n h = refl
  lists-same Descendant n h = below-same p all whole n h
  lists-same DescendantOrSelf n h = below-same p all whole n h
  lists-same FollowingSibling n h = around-same p all whole n h
  lists-same PrecedingSibling n h = around-same p all whole n h

  pub lists-in : (axis : Axis) (n : ℕ) → p n ≡ true → In p (lists_of axis all n)
  lists-in Child n h = (h, tt)
  lists-in Attribute n h = (h, tt)
  lists-in Self_ n h = tt
  lists-in Parent n h = tt
  lists-in Ancestor n h = tt
  lists-in AncestorOrSelf n h = tt
  lists-in Descendant n h = below-in p all whole n h
  lists-in DescendantOrSelf n h = below-in p all whole n h
  lists-in FollowingSibling n h = around-in p all whole n h
  lists-in PrecedingSibling n h = around-in p all whole n h

  pub kinds-same : (axis : Axis) (n : ℕ) → p n ≡ true → kind_read axis (kept p all) n ≡ kind_read axis all n
  kinds-same Child n h = read-same n h
  kinds-same Attribute n h = refl
  kinds-same Self_ n h = refl
  kinds-same Parent n h = refl
  kinds-same Ancestor n h = refl
  kinds-same AncestorOrSelf n h = refl
  kinds-same Descendant n h = read-same n h
  kinds-same DescendantOrSelf n h = read-same n h
  kinds-same FollowingSibling n h = around-same p all whole n h
  kinds-same PrecedingSibling n h = around-same p all whole n h

  pub kinds-in : (axis : Axis) (n : ℕ) → p n ≡ true → In p (kind_read axis all n)
  kinds-in Child n h = read-in n h
  kinds-in Attribute n h = tt
  kinds-in Self_ n h = tt
  kinds-in Parent n h = tt
  kinds-in Ancestor n h = tt
  kinds-in AncestorOrSelf n h = tt
  kinds-in Descendant n h = read-in n h
  kinds-in DescendantOrSelf n h = read-in n h
  kinds-in FollowingSibling n h = around-in p all whole n h
  kinds-in PrecedingSibling n h = around-in p all whole n h

  text-same : (n : ℕ) → p n ≡ true → if_text (found n (kept p all)) ≡ if_text (found n all)
  text-same n h = ap if_text (found-kept p n all h)

  text-in : (n : ℕ) → p n ≡ true → In p (if_text (found n all))
  text-in n h = by (found n all) refl
    where
      of : (x : Visit) → p x.number ≡ true → (b : Bool) → In p (cond b (x.number ∷ []) [])
      of x i true = (i, tt)
      of x i false = tt

      by : (m : Option Visit) → found n all ≡ m → In p (if_text m)
      by None e = tt
      by (Some x) e = of x (ap p (found-number n all x e) ∙ h) (is_text x.content)

  pub beside-same : (axis : Axis) (n : ℕ) → p n ≡ true → text_beside axis (kept p all) n ≡ text_beside axis all n
  beside-same Child n h = refl
  beside-same Attribute n h = refl
  beside-same Self_ n h = refl
  beside-same Parent n h = refl
  beside-same Ancestor n h = refl
  beside-same AncestorOrSelf n h = refl
  beside-same Descendant n h = refl
  beside-same DescendantOrSelf n h = refl
  beside-same FollowingSibling n h = text-same n h
  beside-same PrecedingSibling n h = text-same n h

  pub beside-in : (axis : Axis) (n : ℕ) → p n ≡ true → In p (text_beside axis all n)
  beside-in Child n h = tt
  beside-in Attribute n h = tt
  beside-in Self_ n h = tt
  beside-in Parent n h = tt
  beside-in Ancestor n h = tt
  beside-in AncestorOrSelf n h = tt
  beside-in Descendant n h = tt
  beside-in DescendantOrSelf n h = tt
  beside-in FollowingSibling n h = text-in n h
  beside-in PrecedingSibling n h = text-in n h
