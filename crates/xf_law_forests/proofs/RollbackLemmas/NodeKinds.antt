-- What the nodes with one number are, and the tree of such a node.
use Rattle.std.proofs.Common.{◌≡◌, ℕ, ◌+◌, ◌==◌, Bool, true, ◌||◌, sym, ap, ◌∙◌, inl, inr, arith}
use Rattle.std.specs.Prelude.{⊤, ◌≤◌}
use Rattle.std.proofs.lemmas.Bool.{cases_Bool}
use Rattle.xf_def_forest.specs.declared.content.Content.{Content}
use Rattle.xf_def_forest.proofs.BackLaws.{false-true, one_number}
use Rattle.xf_law_forests.proofs.RollbackLemmas.Trees.{Trees, none, tree, followed, times}
use Rattle.xf_law_forests.proofs.RollbackLemmas.TreeTexts.{times-split, Where, here, inside, later, where_is}
use Rattle.xf_law_forests.proofs.RollbackLemmas.TreeFacts.{is_at, at-times, or-cases}
use Rattle.xf_law_forests.proofs.RollbackLemmas.TreeMoves.{found, found-absent, followed-none}

-- each node with this number is of a kind
abbrev pub Each : (Content → Type 0) → ℕ → Trees → Type 0
Each fact n none = ⊤
Each fact n (tree m c k r) = ((m == n) ≡ true → fact c) × Each fact n k × Each fact n r

pub each-absent : (fact : Content → Type 0) (n : ℕ) (t : Trees) → times n t ≡ 0 → Each fact n t
each-absent fact n none h = tt
each-absent fact n (tree m c k r) h =
    let parts = times-split n m c k r h in
    (λ e. absurd (false-true (sym parts.0 ∙ e)), each-absent fact n k parts.1, each-absent fact n r parts.2)

no-at : (q : Content → Bool) (n : ℕ) (t : Trees) → times n t ≡ 0 → is_at q n t ≡ true → ⊥
no-at q n t none_ h = let k = at-times q n t h in let no : ⊥ = omega (arith, k, none_) in no

-- a node that is there once is of the kind that is found
pub first-at : (q : Content → Bool) (n : ℕ) (c : Content) (k r : Trees) → (q c || (is_at q n k || is_at q n r)) ≡ true → times n k ≡ 0 → times n r ≡ 0 → q c ≡ true
first-at q n c k r g a b = or-cases (q c) (is_at q n k || is_at q n r) g (q c ≡ true) (λ x. x)
    (λ x. or-cases (is_at q n k) (is_at q n r) x (q c ≡ true) (λ y. absurd (no-at q n k a y)) (λ y. absurd (no-at q n r b y)))

pub each-of : (fact : Content → Type 0) (q : Content → Bool) → ((c : Content) → q c ≡ true → fact c) → (n : ℕ) (t : Trees) → times n t ≤ 1 → is_at q n t ≡ true → Each fact n t
each-of fact q other n none once at_ = tt
each-of fact q other n (tree m c k r) once at_ =
    elim (cases_Bool (m == n)) [
      | inl e ↦
          let in_k : times n k ≡ 0 = omega (arith, (rw e at once)) in
          let in_r : times n r ≡ 0 = omega (arith, (rw e at once)) in
          (λ f. other c (first-at q n c k r (rw e at at_) in_k in_r), each-absent fact n k in_k, each-absent fact n r in_r)
      | inr e ↦
          let whole : times n k + times n r ≤ 1 = omega (arith, (rw e at once)) in (
            λ f. absurd (false-true (sym e ∙ f)),
            or-cases (is_at q n k) (is_at q n r) (rw e at at_) (Each fact n k) (λ g. each-of fact q other n k (omega (arith, whole)) g) (λ g. let z = at-times q n r g in each-absent fact n k (omega (arith, whole, z))),
            or-cases (is_at q n k) (is_at q n r) (rw e at at_) (Each fact n r) (λ g. let z = at-times q n k g in each-absent fact n r (omega (arith, whole, z))) (λ g. each-of fact q other n r (omega (arith, whole)) g),
          )
    ]

-- the tree of a node that is there once
pub record FoundTree (fact : Content → Type 0) (n : ℕ) (t : Trees) : Type 0 where
  pub content : Content
  pub below : Trees
  pub is : found n t ≡ tree n content below none
  pub kind : fact content

pub found-tree : (fact : Content → Type 0) (n : ℕ) (t : Trees) → times n t ≡ 1 → Each fact n t → FoundTree fact n t
found-tree fact n none once each = absurd (omega (arith, once))
found-tree fact n (tree m c k r) once each = by (where_is n m c k r once) (λ p. found-tree fact n k p each.1) (λ p. found-tree fact n r p each.2)
  where
    by : Where n m k r → (times n k ≡ 1 → FoundTree fact n k) → (times n r ≡ 1 → FoundTree fact n r) → FoundTree fact n (tree m c k r)
    by (here e p q) one two = record {
      content = c;
      below = k;
      is = rw e (ap (λ x. tree m c k x) (found-absent n r q) ∙ ap (λ x. tree x c k none) (one_number m n e));
      kind = each.0 e;
    }
    by (inside e p q) one two =
        let a = one p in
        record { content = a.content; below = a.below; is = rw e (ap (followed (found n k)) (found-absent n r q) ∙ followed-none (found n k) ∙ a.is); kind = a.kind }
    by (later e p q) one two =
        let a = two q in
        record { content = a.content; below = a.below; is = rw e (ap (λ x. followed x (found n r)) (found-absent n k p) ∙ a.is); kind = a.kind }
