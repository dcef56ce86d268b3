-- After as many rounds as calculates follow one after the other, contents depend no more on those that the rounds began with.
use Rattle.std.proofs.Common.{◌≡◌, ℕ, zero, suc, ◌<◌, Bool, true, false, cond, ◌||◌, ◌==◌, inl, inr, List, [], ◌∷◌, map, find, length, Option, Some, None, option_map, refl, sym, ap, ◌∙◌, subst, arith}
use Rattle.std.specs.List.{list_any}
use Rattle.std.proofs.lemmas.Bool.{cases_Bool, eqb-true, false≢true}
use Rattle.xf_def_forest.specs.Visit.{Visit}
use Rattle.xf_def_forest.specs.Shape.{shape}
use Rattle.xf_def_model.specs.Rules.{Scope}
use Rattle.xf_def_model.specs.Applied.{Entry}
use Rattle.xf_def_model.specs.Entries.{reads_of, touches}
use Rattle.xf_def_model.specs.Settled.{Bounds, Contents, content_of, holding, calculates, content_by, round, rounds, settled_contents}
use Rattle.xf_def_model.specs.Pertinent.{AllOf}
use Rattle.xf_def_model.specs.Stands.{IsSettled, AreCalculated, AgreeFor, Agrees}
use Rattle.xf_def_model.proofs.EachLemmas.{each_then, each_both, each_one}

-- ---- the content of a node, where each entry makes a pair of its node and a content

module _ (made other : Entry → ℕ × List ℕ) (of_made : (e : Entry) → (made e).0 ≡ e.node) where
  found-at : (n : ℕ) (e : Entry) (b : Bool) → ((made e).0 == n) ≡ b → (b ≡ true → made e ≡ other e) → ((other e).0 == n) ≡ b
      → (rest rest' : Option (ℕ × List ℕ)) → rest ≡ rest'
      → cond ((made e).0 == n) (Some (made e)) rest ≡ cond ((other e).0 == n) (Some (other e)) rest'
  found-at n e true h same k rest rest' r = rw (h, k) (ap Some (same refl))
  found-at n e false h same k rest rest' r = rw (h, k) r

  pub find-agrees : ((e : Entry) → (other e).0 ≡ e.node) → (n : ℕ) (es : List Entry) → AllOf (λ e. (e.node == n) ≡ true → made e ≡ other e) es
      → find (λ p. p.0 == n) (map made es) ≡ find (λ p. p.0 == n) (map other es)
  find-agrees of_other n [] h = refl
  find-agrees of_other n (e ∷ es) h =
      found-at n e (e.node == n) (ap (λ m. m == n) (of_made e)) h.0 (ap (λ m. m == n) (of_other e)) (find (λ p. p.0 == n) (map made es)) (find (λ p. p.0 == n) (map other es))
      (find-agrees of_other n es h.1)

  none-at : (n : ℕ) (p : ℕ × List ℕ) (b : Bool) (rest : Option (ℕ × List ℕ)) → (p.0 == n) ≡ b → (b ≡ true → ⊥) → rest ≡ None → cond (p.0 == n) (Some p) rest ≡ None
  none-at n p true rest h never r = absurd (never refl)
  none-at n p false rest h never r = rw h r

  pub find-none : (n : ℕ) (es : List Entry) → list_any (λ e. e.node == n) es ≡ false → find (λ p. p.0 == n) (map made es) ≡ None
  find-none n [] h = refl
  find-none n (e ∷ es) h = none-at n (made e) (e.node == n) (find (λ p. p.0 == n) (map made es)) (ap (λ m. m == n) (of_made e)) (first (e.node == n) h) (find-none n es (later (e.node == n) h))
    where
      first : (b : Bool) → (b || list_any (λ e. e.node == n) es) ≡ false → b ≡ true → ⊥
      first true h e = false≢true (sym h)
      first false h e = false≢true e

      later : (b : Bool) → (b || list_any (λ e. e.node == n) es) ≡ false → list_any (λ e. e.node == n) es ≡ false
      later true h = absurd (false≢true (sym h))
      later false h = h

map-agrees : {X Y : Type 0} (f g : X → Y) (xs : List X) → AllOf (λ x. f x ≡ g x) xs → map f xs ≡ map g xs
map-agrees f g [] h = refl
map-agrees f g (x ∷ xs) h = rw (h.0, map-agrees f g xs h.1) refl

map-none : {X Y : Type 0} (f : X → Y) (xs : List X) → length xs ≡ 0 → map f xs ≡ []
map-none f [] h = refl
map-none f (x ∷ xs) h = absurd (omega (arith, h))

module _ (b : Bounds) (scope : Scope) (entries : List Entry) (all : List Visit) where
  pub rounds-next : (k : ℕ) (contents : Contents) → rounds b scope entries all (suc k) contents ≡ round b scope entries all (rounds b scope entries all k contents)
  rounds-next zero contents = refl
  rounds-next (suc k) contents = rounds-next k (round b scope entries all contents)

  pub round-calculated : (contents : Contents) → AreCalculated entries (round b scope entries all contents)
  round-calculated contents n h =
      ap (option_map (λ p. p.1)) (find-none (content_by b scope (holding all contents)) (content_by b scope (holding all contents)) (λ e. refl) n (calculates entries) h)

  rounds-calculated : (k : ℕ) (contents : Contents) → AreCalculated entries contents → AreCalculated entries (rounds b scope entries all k contents)
  rounds-calculated zero contents h = h
  rounds-calculated (suc k) contents h = rounds-calculated k (round b scope entries all contents) (round-calculated contents)

  rounds-stay : {contents : Contents} → contents ≡ round b scope entries all contents → (k : ℕ) → rounds b scope entries all k contents ≡ contents
  rounds-stay stands zero = refl
  rounds-stay stands (suc k) = ap (rounds b scope entries all k) (sym stands) ∙ rounds-stay stands k

  -- a number for each node, by which each calculate reads lesser nodes alone
  abbrev pub FallsAt : (ℕ → ℕ) → Entry → Type 0
  FallsAt rank e = AllOf (λ s. touches (shape all) (reads_of scope (shape all) e) s.node ≡ true → rank s.node < rank e.node) (calculates entries)

  module _ (agrees : Agrees b scope entries all) (rank : ℕ → ℕ) (falls : AllOf (FallsAt rank) (calculates entries)) where
    -- contents that agree on lesser nodes agree for a calculate
    agree-for : (e : Entry) → FallsAt rank e → (one other : Contents) → AreCalculated entries one → AreCalculated entries other
        → ((n : ℕ) → rank n < rank e.node → content_of one n ≡ content_of other n) → AgreeFor scope all e one other
    agree-for e fall one other of_one of_other lesser n touched =
        elim (cases_Bool (list_any (λ s. s.node == n) (calculates entries))) [
          | inl some ↦
              let s = each_one _ (λ (s : Entry). s.node == n) (calculates entries) fall some in
              let same : s.0.node ≡ n = eqb-true s.0.node n s.1 in
              lesser n (subst (λ m. rank m < rank e.node) same (s.2 (subst (λ m. touches (shape all) (reads_of scope (shape all) e) m ≡ true) (sym same) touched)))
          | inr none ↦ of_one n none ∙ sym (of_other n none)
        ]

    -- after so many rounds contents agree on nodes with lesser numbers
    agree-below : (k : ℕ) (one other : Contents) → AreCalculated entries one → AreCalculated entries other
        → (n : ℕ) → rank n < k → content_of (rounds b scope entries all k one) n ≡ content_of (rounds b scope entries all k other) n
    agree-below zero one other of_one of_other n less = absurd (omega (arith, less))
    agree-below (suc k) one other of_one of_other n less =
        let X = rounds b scope entries all k one in
        let Y = rounds b scope entries all k other in
        ap (λ c. content_of c n) (rounds-next k one)
        ∙ ap (option_map (λ p. p.1))
        (find-agrees (content_by b scope (holding all X)) (content_by b scope (holding all Y)) (λ e. refl) (λ e. refl) n (calculates entries)
        (each_then _ _ (λ e h same. h.0 X Y (rounds-calculated k one of_one) (rounds-calculated k other of_other)
        (agree-for e h.1 X Y (rounds-calculated k one of_one) (rounds-calculated k other of_other)
        (λ m lesser. let at : e.node ≡ n = eqb-true e.node n same in agree-below k one other of_one of_other m (let up : rank e.node ≡ rank n = ap rank at in omega (arith, lesser, less, up)))))
        (calculates entries) (each_both _ (FallsAt rank) (calculates entries) agrees falls)))
        ∙ sym (ap (λ c. content_of c n) (rounds-next k other))

    -- and where all calculated nodes have lesser ones they are the same
    agree-rounds : (k : ℕ) (one other : Contents) → AreCalculated entries one → AreCalculated entries other
        → AllOf (λ e. rank e.node < suc k) (calculates entries) → rounds b scope entries all (suc k) one ≡ rounds b scope entries all (suc k) other
    agree-rounds k one other of_one of_other low =
        let X = rounds b scope entries all k one in
        let Y = rounds b scope entries all k other in
        rounds-next k one
        ∙ map-agrees (content_by b scope (holding all X)) (content_by b scope (holding all Y)) (calculates entries)
        (each_then _ _ (λ e h. h.0.0 X Y (rounds-calculated k one of_one) (rounds-calculated k other of_other)
        (agree-for e h.0.1 X Y (rounds-calculated k one of_one) (rounds-calculated k other of_other)
        (λ m lesser. agree-below k one other of_one of_other m (let up = h.1 in omega (arith, lesser, up)))))
        (calculates entries) (each_both _ (λ e. rank e.node < suc k) (calculates entries) (each_both _ (FallsAt rank) (calculates entries) agrees falls) low))
        ∙ sym (rounds-next k other)

    none-calculated : AreCalculated entries []
    none-calculated n h = refl

    begun-again : (m : ℕ) → length (calculates entries) ≡ m → AllOf (λ e. rank e.node < m) (calculates entries) → (contents : Contents) → AreCalculated entries contents
        → contents ≡ round b scope entries all contents → rounds b scope entries all m [] ≡ contents
    begun-again zero none low contents of_contents stands = sym (stands ∙ map-none (content_by b scope (holding all contents)) (calculates entries) none)
    begun-again (suc k) count low contents of_contents stands = agree-rounds k [] contents none-calculated of_contents low ∙ rounds-stay stands (suc k)

    going-on : (m : ℕ) → length (calculates entries) ≡ m → AllOf (λ e. rank e.node < m) (calculates entries)
        → rounds b scope entries all m [] ≡ rounds b scope entries all m (round b scope entries all [])
    going-on zero none low = sym (map-none (content_by b scope (holding all [])) (calculates entries) none)
    going-on (suc k) count low = agree-rounds k [] (round b scope entries all []) none-calculated (round-calculated []) low

    module _ (low : AllOf (λ e. rank e.node < length (calculates entries)) (calculates entries)) where
      -- settled contents are the ones that the rounds give
      pub settled-by_rank : (contents : Contents) → IsSettled b scope entries all contents → contents ≡ settled_contents b scope entries all
      settled-by_rank contents stands =
          sym (begun-again (length (calculates entries)) refl low contents (subst (AreCalculated entries) (sym stands) (round-calculated contents)) stands)

      -- and these are settled
      pub stands-by_rank : IsSettled b scope entries all (settled_contents b scope entries all)
      stands-by_rank = going-on (length (calculates entries)) refl low ∙ rounds-next (length (calculates entries)) []
