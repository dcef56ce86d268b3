-- The nodes of the shape among a set in document order: those of the forest, and each text behind its element and its attributes.
use Rattle.std.proofs.Common.{◌≡◌, ℕ, ◌==◌, Bool, true, false, not, cond, ◌&&◌, ◌||◌, List, [], ◌∷◌, ◌++◌, Option, Some, None, refl, sym, ap, ◌∙◌, subst}
use Rattle.std.specs.Prelude.{filter, ⊤}
use Rattle.std.proofs.lemmas.Bool.{eqb-true}
use Rattle.xf_def_forest.specs.Forest.{is_attribute}
use Rattle.xf_def_forest.specs.Visit.{Visit, has, has_parent, is_first}
use Rattle.xf_def_forest.specs.Shape.{is_borne, filled, text_number}
use Rattle.xf_def_forest.proofs.BackLaws.{and-true, or-false, not-true}
use Rattle.xf_def_xpath.specs.Asked.{found}
use Rattle.xf_def_xpath.specs.Agree.{numbers_of, are_apart}
use Rattle.xf_def_xpath.proofs.VisitFacts.{no, self-same, filter-append}
use Rattle.xf_def_xpath.proofs.ForestVisits.{Each}
use Rattle.xf_eval_shape.specs.Steps.{if_so}
use Rattle.xf_eval_shape.specs.Woven.{waiting_text, flushed, still_waiting, now_waiting, begins_with, past, woven}
use Rattle.xf_eval_shape.proofs.Runs.{AreRuns}

-- ---- heads of lists

head-other : (r : ℕ → Bool) (n : ℕ) (ns : List ℕ) → r n ≡ false → (begins_with n (filter r ns) ≡ false) × (past n (filter r ns) ≡ filter r ns)
head-other r n [] h = (refl, refl)
head-other r n (m ∷ ms) h = by (r m) refl (head-other r n ms h)
  where
    of : (b : Bool) → (m == n) ≡ b → r m ≡ true → (b ≡ false) × (cond b (filter r ms) (m ∷ filter r ms) ≡ m ∷ filter r ms)
    of true e i = no (sym h ∙ ap r (sym (eqb-true m n e)) ∙ i)
    of false e i = (refl, refl)

    by : (b : Bool) → r m ≡ b → (begins_with n (filter r ms) ≡ false) × (past n (filter r ms) ≡ filter r ms) →
        (begins_with n (cond b (m ∷ filter r ms) (filter r ms)) ≡ false) × (past n (cond b (m ∷ filter r ms) (filter r ms)) ≡ cond b (m ∷ filter r ms) (filter r ms))
    by true i below = of (m == n) refl i
    by false i below = below

-- ---- over visits

-- the visit is an attribute of this element
abbrev pub owns : ℕ → Visit → Bool
owns owner y = is_attribute y.content && is_first owner y.above

-- how far a text that waits is from its element: in the run behind it, or past it
pub data Mode : Type 0 where
  none : Mode
  run : ℕ → Mode
  after : ℕ → Mode

abbrev pub waits : Mode → Option ℕ
waits none = None
waits (run owner) = Some owner
waits (after owner) = Some owner

module _ (p q : ℕ → Bool) where
  abbrev flush : Option ℕ → Visit → List ℕ
  flush None y = []
  flush (Some owner) y = cond (owns owner y) [] (text_number owner ∷ [])

  abbrev still : Option ℕ → Visit → Option ℕ
  still None y = None
  still (Some owner) y = cond (owns owner y) (Some owner) None

  abbrev pub over : Option ℕ → List Visit → List ℕ
  over w [] = waiting_text w
  over w (y ∷ ys) = cond (p y.number || q y.number) (flush w y ++ (if_so (p y.number) y.number ++ over (now_waiting (q y.number) y.number (still w y)) ys)) (over w ys)

  module _ (own : ℕ → ℕ → Bool) where
    abbrev Told : Visit → Type 0
    Told y = (owner : ℕ) → own owner y.number ≡ owns owner y

    flush-same : (w : Option ℕ) (y : Visit) → Told y → flushed own w y.number ≡ flush w y
    flush-same None y h = refl
    flush-same (Some owner) y h = ap (λ b. cond b [] (text_number owner ∷ [])) (h owner)

    still-same : (w : Option ℕ) (y : Visit) → Told y → still_waiting own w y.number ≡ still w y
    still-same None y h = refl
    still-same (Some owner) y h = ap (λ b. cond b (Some owner) None) (h owner)

    -- of a list, whatever waits before it
    abbrev Rest : List Visit → Type 0
    Rest ys = (v : Option ℕ) → woven own v (filter (λ k. p k || q k) (numbers_of ys)) (filter p (numbers_of ys)) (filter q (numbers_of ys)) ≡ over v ys

    pub woven-over : (w : Option ℕ) (ys : List Visit) → Each Told ys →
        woven own w (filter (λ k. p k || q k) (numbers_of ys)) (filter p (numbers_of ys)) (filter q (numbers_of ys)) ≡ over w ys
    woven-over w [] h = refl
    woven-over w (y ∷ ys) h = by (λ v. woven-over v ys h.1) (p y.number) (q y.number) refl refl
      where
        ns : List ℕ
        ns = numbers_of ys

        here : Rest ys → (b : Bool) (nodes owners : List ℕ) → begins_with y.number nodes ≡ b → (c : Bool) → begins_with y.number owners ≡ c → past y.number nodes ≡ filter p ns → past y.number owners ≡ filter q ns →
            woven own w (y.number ∷ filter (λ k. p k || q k) ns) nodes owners ≡ flush w y ++ (if_so b y.number ++ over (now_waiting c y.number (still w y)) ys)
        here rest b nodes owners e c i j k =
            ap (λ l. l ++ (if_so (begins_with y.number nodes) y.number ++ woven own (now_waiting (begins_with y.number owners) y.number (still_waiting own w y.number)) (filter (λ k. p k || q k) ns) (past y.number nodes) (past y.number owners))) (flush-same w y h.0)
            ∙ ap (λ l. flush w y ++ l) (
            ap (λ x. if_so x y.number ++ woven own (now_waiting (begins_with y.number owners) y.number (still_waiting own w y.number)) (filter (λ k. p k || q k) ns) (past y.number nodes) (past y.number owners)) e
            ∙ ap (λ l. if_so b y.number ++ l) (
            ap (λ x. woven own (now_waiting x y.number (still_waiting own w y.number)) (filter (λ k. p k || q k) ns) (past y.number nodes) (past y.number owners)) i
            ∙ ap (λ x. woven own (now_waiting c y.number x) (filter (λ k. p k || q k) ns) (past y.number nodes) (past y.number owners)) (still-same w y h.0)
            ∙ ap (λ l. woven own (now_waiting c y.number (still w y)) (filter (λ k. p k || q k) ns) l (past y.number owners)) j
            ∙ ap (λ l. woven own (now_waiting c y.number (still w y)) (filter (λ k. p k || q k) ns) (filter p ns) l) k
            ∙ rest (now_waiting c y.number (still w y))))

        first-past : (l : List ℕ) → past y.number (y.number ∷ l) ≡ l
        first-past l = ap (λ b. cond b l (y.number ∷ l)) (self-same y.number)

        by : Rest ys → (a b : Bool) → p y.number ≡ a → q y.number ≡ b →
            woven own w (cond (a || b) (y.number ∷ filter (λ k. p k || q k) ns) (filter (λ k. p k || q k) ns)) (cond a (y.number ∷ filter p ns) (filter p ns)) (cond b (y.number ∷ filter q ns) (filter q ns))
            ≡ cond (a || b) (flush w y ++ (if_so a y.number ++ over (now_waiting b y.number (still w y)) ys)) (over w ys)
        by rest true true e i = here rest true (y.number ∷ filter p ns) (y.number ∷ filter q ns) (self-same y.number) true (self-same y.number) (first-past (filter p ns)) (first-past (filter q ns))
        by rest true false e i = let o = head-other q y.number ns i in here rest true (y.number ∷ filter p ns) (filter q ns) (self-same y.number) false o.0 (first-past (filter p ns)) o.1
        by rest false true e i = let o = head-other p y.number ns e in here rest false (filter p ns) (y.number ∷ filter q ns) o.0 true (self-same y.number) o.1 (first-past (filter q ns))
        by rest false false e i = rest w

  -- ---- a text that no attribute comes before any more

  late : (owner : ℕ) (ys : List Visit) → Each (λ z. owns owner z ≡ false) ys → over (Some owner) ys ≡ text_number owner ∷ over None ys
  late owner [] h = refl
  late owner (y ∷ ys) h = by (p y.number || q y.number) (late owner ys h.1)
    where
      by : (b : Bool) → over (Some owner) ys ≡ text_number owner ∷ over None ys →
          cond b (flush (Some owner) y ++ (if_so (p y.number) y.number ++ over (now_waiting (q y.number) y.number (still (Some owner) y)) ys)) (over (Some owner) ys)
          ≡ text_number owner ∷ cond b (if_so (p y.number) y.number ++ over (now_waiting (q y.number) y.number None) ys) (over None ys)
      by true k =
          ap (λ x. cond x [] (text_number owner ∷ []) ++ (if_so (p y.number) y.number ++ over (now_waiting (q y.number) y.number (cond x (Some owner) None)) ys)) h.0
      by false k = k

  -- attributes of an element come in its run alone
  run-past : (o owner : ℕ) (zs : List Visit) → AreRuns o zs → (owner == o) ≡ false → has owner (numbers_of zs) ≡ false → Each (λ z. owns owner z ≡ false) zs
  run-past o owner [] r d h = tt
  run-past o owner (z ∷ zs) r d h = (here (is_borne z) refl r.0, below (λ k r' d'. run-past k owner zs r' d' apart.1) (is_borne z) r.1)
    where
      apart : ((owner == z.number) ≡ false) × (has owner (numbers_of zs) ≡ false)
      apart = or-false (owner == z.number) (has owner (numbers_of zs)) h

      below : ((k : ℕ) → AreRuns k zs → (owner == k) ≡ false → Each (λ v. owns owner v ≡ false) zs) → (b : Bool) → AreRuns (cond b o z.number) zs → Each (λ v. owns owner v ≡ false) zs
      below rest true k = rest o k d
      below rest false k = rest z.number k apart.0

      first-one : (ns : List ℕ) → is_first o ns ≡ true → is_first owner ns ≡ false
      first-one [] i = no i
      first-one (m ∷ ms) i = ap (λ k. owner == k) (sym (eqb-true o m i)) ∙ d

      and-none : (b : Bool) → (b && false) ≡ false
      and-none true = refl
      and-none false = refl

      free : (b : Bool) (ns : List ℕ) → (b && has_parent ns) ≡ false → (b && is_first owner ns) ≡ false
      free b [] i = and-none b
      free true (m ∷ ms) i = no (sym i)
      free false (m ∷ ms) i = refl

      here : (b : Bool) → is_borne z ≡ b → (is_borne z ≡ true → is_first o z.above ≡ true) → owns owner z ≡ false
      here true i k = ap (λ b. is_attribute z.content && b) (first-one z.above (k i)) ∙ and-none (is_attribute z.content)
      here false i k = free (is_attribute z.content) z.above i

  -- ---- over the list into which texts are put

  module _ (g : Visit → List Visit) (keep h : Visit → Bool) (all : List Visit) where
    pub record Fits (y : Visit) : Type 0 where
      pub found_itself : found y.number all ≡ Some y
      pub kept : keep y ≡ true → h y ≡ p y.number
      pub gone : keep y ≡ false → (p y.number ≡ false) × (q y.number ≡ false)
      -- nothing stands below what is gone
      pub bare : keep y ≡ false → (z : Visit) → found z.number all ≡ Some z → is_first y.number z.above ≡ false
      pub text : numbers_of (filter h (g y)) ≡ if_so (q y.number) (text_number y.number)
      pub attribute : is_borne y ≡ true → (q y.number ≡ false) × (keep y ≡ true)

    abbrev IsCalm : List Visit → Type 0
    IsCalm [] = ⊤
    IsCalm (y ∷ ys) = is_borne y ≡ false

    abbrev Holds : Mode → ℕ → List Visit → Type 0
    Holds none o ys = ⊤
    Holds (run owner) o ys = (owner ≡ o) × (has owner (numbers_of ys) ≡ false)
    Holds (after owner) o ys = Each (λ z. owns owner z ≡ false) ys × IsCalm ys

    abbrev number : List Visit → List ℕ
    number l = numbers_of (filter h l)

    number-append : (xs ys : List Visit) → number (xs ++ ys) ≡ number xs ++ number ys
    number-append xs ys = ap numbers_of (filter-append h xs ys) ∙ both (filter h xs) (filter h ys)
      where
        both : (us vs : List Visit) → numbers_of (us ++ vs) ≡ numbers_of us ++ numbers_of vs
        both [] vs = refl
        both (u ∷ us) vs = ap (λ l. u.number ∷ l) (both us vs)

    number-one : (y : Visit) (l : List Visit) (b : Bool) → h y ≡ b → number (y ∷ l) ≡ if_so b y.number ++ number l
    number-one y l true e = ap (λ b. numbers_of (cond b (y ∷ filter h l) (filter h l))) e
    number-one y l false e = ap (λ b. numbers_of (cond b (y ∷ filter h l) (filter h l))) e

    calm-behind : (y : Visit) (ys : List Visit) → ((z : Visit) → found z.number all ≡ Some z → is_first y.number z.above ≡ false) → Each Fits ys → AreRuns y.number ys → IsCalm ys
    calm-behind y [] b f r = tt
    calm-behind y (z ∷ zs) b f r = by (is_borne z) refl
      where
        by : (c : Bool) → is_borne z ≡ c → c ≡ false
        by true i = no (sym (b z f.0.found_itself) ∙ r.0 i)
        by false i = refl

    not-own : (owner : ℕ) (y : Visit) → is_borne y ≡ false → owns owner y ≡ false
    not-own owner y e = free (is_attribute y.content) y.above e
      where
        and-none : (b : Bool) → (b && false) ≡ false
        and-none true = refl
        and-none false = refl

        free : (b : Bool) (ns : List ℕ) → (b && has_parent ns) ≡ false → (b && is_first owner ns) ≡ false
        free b [] i = and-none b
        free true (m ∷ ms) i = no (sym i)
        free false (m ∷ ms) i = refl

    -- behind a node that is no borne attribute
    Whole : Mode → ℕ → List Visit → List Visit → Type 0
    Whole mode o ws ys = number (filled g ws (filter keep ys)) ≡ over (waits mode) ys

    past-one : (owner o : ℕ) (y : Visit) (ys : List Visit) → (owner ≡ o) × (has owner (numbers_of (y ∷ ys)) ≡ false) → AreRuns y.number ys → Each (λ z. owns owner z ≡ false) ys
    past-one owner o y ys k r =
        let a = or-false (owner == y.number) (has owner (numbers_of ys)) k.1 in
        run-past y.number owner ys r a.0 a.1

    module _ (y : Visit) (ys : List Visit) where
      -- what waits comes before a node that is no attribute of its element
      comes : (w : Option ℕ) → ((owner : ℕ) → w ≡ Some owner → owns owner y ≡ false) → (flush w y ≡ waiting_text w) × (still w y ≡ None)
      comes None h' = (refl, refl)
      comes (Some owner) h' = let o = h' owner refl in (ap (λ b. cond b [] (text_number owner ∷ [])) o, ap (λ b. cond b (Some owner) None) o)

      late-if : (w : Option ℕ) → ((owner : ℕ) → w ≡ Some owner → Each (λ z. owns owner z ≡ false) ys) → waiting_text w ++ over None ys ≡ over w ys
      late-if None h' = refl
      late-if (Some owner) h' = sym (late owner ys (h' owner refl))

      behind : (w : Option ℕ) → ((owner : ℕ) → w ≡ Some owner → owns owner y ≡ false) → ((owner : ℕ) → w ≡ Some owner → Each (λ z. owns owner z ≡ false) ys) → (a b : Bool) →
          waiting_text w ++ (if_so a y.number ++ over (now_waiting b y.number None) ys) ≡ cond (a || b) (flush w y ++ (if_so a y.number ++ over (now_waiting b y.number (still w y)) ys)) (over w ys)
      behind w h' i true b =
          let o = comes w h' in
          ap (λ l. l ++ (y.number ∷ over (now_waiting b y.number None) ys)) (sym o.0) ∙ ap (λ x. flush w y ++ (y.number ∷ over (now_waiting b y.number x) ys)) (sym o.1)
      behind w h' i false true = let o = comes w h' in ap (λ l. l ++ over (Some y.number) ys) (sym o.0)
      behind w h' i false false = late-if w i

      -- an attribute of the element comes before
      beside : (w : Option ℕ) → (flush w y ≡ []) → (still w y ≡ w) → (a : Bool) → if_so a y.number ++ over w ys ≡ cond (a || false) (flush w y ++ (if_so a y.number ++ over (still w y) ys)) (over w ys)
      beside w i j true = ap (λ x. y.number ∷ over x ys) (sym j) ∙ ap (λ l. l ++ (y.number ∷ over (still w y) ys)) (sym i)
      beside w i j false = refl

      gone-step : (w : Option ℕ) → p y.number ≡ false → q y.number ≡ false → over w ys ≡ over w (y ∷ ys)
      gone-step w i j = sym (ap (λ b. cond (b || q y.number) (flush w y ++ (if_so (p y.number) y.number ++ over (now_waiting (q y.number) y.number (still w y)) ys)) (over w ys)) i
          ∙ ap (λ b. cond (false || b) (flush w y ++ (if_so (p y.number) y.number ++ over (now_waiting (q y.number) y.number (still w y)) ys)) (over w ys)) j)

    abbrev next-mode : Bool → ℕ → Mode
    next-mode true n = run n
    next-mode false n = none

    waits-next : (b : Bool) (n : ℕ) → if_so b (text_number n) ≡ waiting_text (waits (next-mode b n))
    waits-next true n = refl
    waits-next false n = refl

    waits-is : (b : Bool) (n : ℕ) → waits (next-mode b n) ≡ now_waiting b n None
    waits-is true n = refl
    waits-is false n = refl

    next-holds : (b : Bool) (n : ℕ) (ys : List Visit) → has n (numbers_of ys) ≡ false → Holds (next-mode b n) n ys
    next-holds true n ys h' = (refl, h')
    next-holds false n ys h' = tt

    -- of a list, whatever waits before it
    abbrev Done : List Visit → Type 0
    Done ys = (m : Mode) (o : ℕ) (ws : List Visit) → AreRuns o ys → number ws ≡ waiting_text (waits m) → Holds m o ys → number (filled g ws (filter keep ys)) ≡ over (waits m) ys

    pub weave : (ys : List Visit) (mode : Mode) (o : ℕ) (ws : List Visit) → Each Fits ys → AreRuns o ys → are_apart (numbers_of ys) ≡ true → number ws ≡ waiting_text (waits mode) → Holds mode o ys →
        number (filled g ws (filter keep ys)) ≡ over (waits mode) ys
    weave [] mode o ws f r a e k = e
    weave (y ∷ ys) mode o ws f r a e k = by (λ m o' ws' r' e' k'. weave ys m o' ws' f.1 r' parts.1 e' k') (keep y) refl (is_borne y) refl
      where
        parts : (not (has y.number (numbers_of ys)) ≡ true) × (are_apart (numbers_of ys) ≡ true)
        parts = and-true (not (has y.number (numbers_of ys))) (are_apart (numbers_of ys)) a

        once : has y.number (numbers_of ys) ≡ false
        once = not-true (has y.number (numbers_of ys)) parts.0

        runs-at : (b : Bool) → is_borne y ≡ b → AreRuns (cond b o y.number) ys
        runs-at b i = subst (λ c. AreRuns (cond c o y.number) ys) i r.1

        -- of what waits no attribute comes here or behind
        not-here : (m : Mode) → Holds m o (y ∷ ys) → is_borne y ≡ false → (owner : ℕ) → waits m ≡ Some owner → owns owner y ≡ false
        not-here m k' i owner j = not-own owner y i

        not-behind : (m : Mode) → Holds m o (y ∷ ys) → is_borne y ≡ false → (owner : ℕ) → waits m ≡ Some owner → Each (λ z. owns owner z ≡ false) ys
        not-behind none k' i owner j = cc j
        not-behind (run e') k' i owner j = let s : e' ≡ owner = cc j in subst (λ n. Each (λ z. owns n z ≡ false) ys) s (past-one e' o y ys k' (runs-at false i))
        not-behind (after e') k' i owner j = let s : e' ≡ owner = cc j in subst (λ n. Each (λ z. owns n z ≡ false) ys) s k'.0.1

        -- where the node is gone
        goes : Done ys → (m : Mode) → number ws ≡ waiting_text (waits m) → Holds m o (y ∷ ys) → keep y ≡ false → is_borne y ≡ false → number (filled g ws (filter keep ys)) ≡ over (waits m) ys
        goes rest none e' k' l i = rest none y.number ws (runs-at false i) e' tt
        goes rest (run n) e' k' l i = rest (after n) y.number ws (runs-at false i) e' (past-one n o y ys k' (runs-at false i), calm-behind y ys (f.0.bare l) f.1 (runs-at false i))
        goes rest (after n) e' k' l i = rest (after n) y.number ws (runs-at false i) e' (k'.0.1, calm-behind y ys (f.0.bare l) f.1 (runs-at false i))

        -- where it is an attribute in the run
        stays : Done ys → (m : Mode) → number ws ≡ waiting_text (waits m) → Holds m o (y ∷ ys) → keep y ≡ true → is_borne y ≡ true → number (y ∷ filled g ws (filter keep ys)) ≡ over (waits m) (y ∷ ys)
        stays done m e' k' l i =
            let attr = f.0.attribute i in
            number-one y (filled g ws (filter keep ys)) (p y.number) (f.0.kept l)
            ∙ ap (λ x. if_so (p y.number) y.number ++ x) (rest m e' k')
            ∙ beside y ys (waits m) (flat m k').0 (flat m k').1 (p y.number)
            ∙ ap (λ b. cond (p y.number || b) (flush (waits m) y ++ (if_so (p y.number) y.number ++ over (now_waiting b y.number (still (waits m) y)) ys)) (over (waits m) ys)) (sym attr.0)
          where
            mine : (n : ℕ) → n ≡ o → owns n y ≡ true
            mine n s = subst (λ j. owns j y ≡ true) (sym s) (ap (λ b. b && is_first o y.above) (and-true _ _ i).0 ∙ r.0 i)

            flat : (m : Mode) → Holds m o (y ∷ ys) → (flush (waits m) y ≡ []) × (still (waits m) y ≡ waits m)
            flat none k' = (refl, refl)
            flat (run n) k' = (ap (λ b. cond b [] (text_number n ∷ [])) (mine n k'.0), ap (λ b. cond b (Some n) None) (mine n k'.0))
            flat (after n) k' = no (sym k'.1 ∙ i)

            rest : (m : Mode) → number ws ≡ waiting_text (waits m) → Holds m o (y ∷ ys) → number (filled g ws (filter keep ys)) ≡ over (waits m) ys
            rest none e' k' = done none o ws (runs-at true i) e' tt
            rest (run n) e' k' = done (run n) o ws (runs-at true i) e' (k'.0, (or-false (n == y.number) (has n (numbers_of ys)) k'.1).1)
            rest (after n) e' k' = no (sym k'.1 ∙ i)

        -- where it is another node
        passes : Done ys → keep y ≡ true → is_borne y ≡ false → number (ws ++ y ∷ filled g (g y) (filter keep ys)) ≡ over (waits mode) (y ∷ ys)
        passes rest l i =
            number-append ws (y ∷ filled g (g y) (filter keep ys))
            ∙ ap (λ x. x ++ number (y ∷ filled g (g y) (filter keep ys))) e
            ∙ ap (λ x. waiting_text (waits mode) ++ x) (
            number-one y (filled g (g y) (filter keep ys)) (p y.number) (f.0.kept l)
            ∙ ap (λ x. if_so (p y.number) y.number ++ x) (
            rest (next-mode (q y.number) y.number) y.number (g y) (runs-at false i) (f.0.text ∙ waits-next (q y.number) y.number) (next-holds (q y.number) y.number ys once)
            ∙ ap (λ w. over w ys) (waits-is (q y.number) y.number)))
            ∙ behind y ys (waits mode) (not-here mode k i) (not-behind mode k i) (p y.number) (q y.number)

        by : Done ys → (b : Bool) → keep y ≡ b → (c : Bool) → is_borne y ≡ c → number (filled g ws (cond b (y ∷ filter keep ys) (filter keep ys))) ≡ over (waits mode) (y ∷ ys)
        by rest true l true i = ap (λ c. number (cond c (y ∷ filled g ws (filter keep ys)) (ws ++ y ∷ filled g (g y) (filter keep ys)))) i ∙ stays rest mode e k l i
        by rest true l false i = ap (λ c. number (cond c (y ∷ filled g ws (filter keep ys)) (ws ++ y ∷ filled g (g y) (filter keep ys)))) i ∙ passes rest l i
        by rest false l true i = no (sym l ∙ (f.0.attribute i).1)
        by rest false l false i = let gone = f.0.gone l in goes rest mode e k l i ∙ gone-step y ys (waits mode) gone.0 gone.1
