-- One round of each loop over the parts of an expression, and its end.
use Rattle.std.proofs.Common.{◌≡◌, ℕ, zero, suc, ◌+◌, ◌<◌, ◌≤◌, List, [], ◌∷◌, ◌++◌, map, drop, length, get_or, refl, sym, ap, ◌∙◌, append_assoc, arith}
use Rattle.std.proofs.lemmas.List.{at_drop_more, at_drop_all}
use Rattle.xf_def_syntax.specs.declared.expr.Expr.{Expr}
use Rattle.xf_def_syntax.specs.declared.expr.Link.{Link}
use Rattle.xf_def_xpath.specs.Asked.{Asked, LinkTrace, Trace, both, converted, plainly}
use Rattle.xf_def_xpath.specs.AskedCalls.{all_converted, argument, link_asked, links_asked}
use Rattle.xf_def_xpath.specs.Reads.{trace, trace_of_link}
use Rattle.xf_def_xpath.specs.Setting.{Setting, Focus}
use Rattle.xf_def_xpath.proofs.Equations.{trace-link}

append-none : {X : Type 0} (xs : List X) → xs ++ [] ≡ xs
append-none [] = refl
append-none (x ∷ xs) = ap (λ l. x ∷ l) (append-none xs)

module _ (s : Setting) (c : Focus) where
  -- ---- a chain of operators

  abbrev pub link-of : Link → Asked → Asked
  link-of l a = link_asked l.operator s a ((trace l.right).asked s c)

  pub links-round : (links : List Link) (i : ℕ) (d : Link) (a w : Asked) → links_asked (map trace_of_link (drop i links)) s c a ≡ w → i < length links →
      links_asked (map trace_of_link (drop (i + 1) links)) s c (link-of (get_or links i d) a) ≡ w
  links-round links i d a w h l =
      ap (λ (t : LinkTrace). links_asked (map trace_of_link (drop (i + 1) links)) s c (link_asked t.operator s a (t.right.asked s c))) (sym (trace-link (get_or links i d)))
      ∙ sym (at_drop_more (λ ls. links_asked (map trace_of_link ls) s c a) links i d l)
      ∙ h

  pub links-end : (links : List Link) (i : ℕ) (a w : Asked) → links_asked (map trace_of_link (drop i links)) s c a ≡ w → length links ≤ i → a ≡ w
  links-end links i a w h l = sym (at_drop_all (λ ls. links_asked (map trace_of_link ls) s c a) links i l) ∙ h

  -- ---- arguments

  abbrev all-of : List Expr → Asked
  all-of es = all_converted (map trace es) s c

  abbrev pub one-of : Expr → Asked
  one-of x = converted s ((trace x).asked s c)

  -- a plain value stays beside nothing
  plain-all : (ts : List Trace) → plainly (all_converted ts s c).reads (all_converted ts s c).looks ≡ all_converted ts s c
  plain-all [] = refl
  plain-all (t ∷ ts) = refl

  pub all-start : (es : List Expr) → both (plainly [] []) (all-of es) ≡ all-of es
  all-start es = plain-all (map trace es)

  both-assoc : (reads looks : List ℕ) (a b : Asked) → both (plainly reads looks) (both a b) ≡ both (both (plainly reads looks) a) b
  both-assoc reads looks a b =
      ap (λ l. plainly l (looks ++ (a.looks ++ b.looks))) (sym (append_assoc reads a.reads b.reads))
      ∙ ap (plainly ((reads ++ a.reads) ++ b.reads)) (sym (append_assoc looks a.looks b.looks))

  pub all-round : (es : List Expr) (i : ℕ) (d : Expr) (reads looks : List ℕ) (w : Asked) → both (plainly reads looks) (all-of (drop i es)) ≡ w → i < length es →
      both (both (plainly reads looks) (one-of (get_or es i d))) (all-of (drop (i + 1) es)) ≡ w
  all-round es i d reads looks w h l =
      sym (both-assoc reads looks (one-of (get_or es i d)) (all-of (drop (i + 1) es)))
      ∙ sym (at_drop_more (λ l. both (plainly reads looks) (all-of l)) es i d l)
      ∙ h

  pub all-end : (es : List Expr) (i : ℕ) (reads looks : List ℕ) (w : Asked) → both (plainly reads looks) (all-of (drop i es)) ≡ w → length es ≤ i → plainly reads looks ≡ w
  all-end es i reads looks w h l =
      ap (λ l. plainly l looks) (sym (append-none reads))
      ∙ ap (plainly (reads ++ [])) (sym (append-none looks))
      ∙ sym (at_drop_all (λ l. both (plainly reads looks) (all-of l)) es i l)
      ∙ h

  -- ---- one argument

  pub argument-within : (es : List Expr) (at : ℕ) (d : Expr) → at < length es → argument at (map trace es) s c ≡ (trace (get_or es at d)).asked s c
  argument-within [] at d l = absurd (omega (arith, l))
  argument-within (x ∷ xs) zero d l = refl
  argument-within (x ∷ xs) (suc at) d l = argument-within xs at d (omega (arith, l))

  pub argument-past : (es : List Expr) (at : ℕ) → length es ≤ at → argument at (map trace es) s c ≡ plainly [] []
  argument-past [] at l = refl
  argument-past (x ∷ xs) zero l = absurd (omega (arith, l))
  argument-past (x ∷ xs) (suc at) l = argument-past xs at (omega (arith, l))
