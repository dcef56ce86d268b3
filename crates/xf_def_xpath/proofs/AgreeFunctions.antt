-- Functions over two forests that agree on what is read and looked at.
use Rattle.std.proofs.Common.{◌≡◌, ℕ, zero, suc, ◌==◌, Bool, true, false, not, ◌||◌, List, [], ◌∷◌, ◌++◌, map, length, Option, Some, None, option_map, refl, sym, ap, ◌∙◌, inl, inr}
use Rattle.std.specs.Prelude.{⊤, filter}
use Rattle.std.specs.Prelude as std
use Rattle.xf_num.specs.Written.{read_at}
use Rattle.xf_def_forest.specs.declared.content.Name as node_name
use Rattle.xf_def_forest.specs.Forest.{written_in}
use Rattle.xf_def_forest.specs.Visit.{Visit, has}
use Rattle.xf_def_xpath.specs.declared.value.Value.{Value}
use Rattle.xf_def_xpath.specs.declared.value.Value.TheVariants.{Text, Number}
use Rattle.xf_def_values.specs.declared.plain.Plain.{Plain}
use Rattle.xf_def_values.specs.Conversions.{Decimal, whole}
use Rattle.xf_def_xpath.specs.Setting.{Setting, Focus, Meaning, ◌>>=◌, capped, in_order}
use Rattle.xf_def_xpath.specs.Conversions.{nodes_of, truth_of, is_filled, number_of, string_of, plain_of, value_of_plain, strings_of}
use Rattle.xf_def_xpath.specs.Functions.{argument, own_argument, plain_arguments, text_value, count_of, of_numbers, total, average, extreme, greater, lesser, first_name, local_part, namespace_of, branch, branched, called}
use Rattle.xf_def_xpath.specs.Table.{Function, function_at}
use Rattle.xf_def_xpath.specs.Table as of
use Rattle.xf_def_xpath.specs.Asked.{Asked, Trace, found, plainly, both, as_plain, all_read, converted}
use Rattle.xf_def_xpath.specs.AskedCalls as asked
use Rattle.xf_def_xpath.specs.Agree.{untexted}
use Rattle.xf_def_xpath.proofs.VisitFacts.{or-cases, no, filter-none}
use Rattle.std.proofs.lemmas.Bool.{eqb-true}
use Rattle.xf_def_xpath.proofs.Comparison.{Comparison, other, over_shape, Solid, AllSolid}
use Rattle.xf_def_xpath.proofs.Gives.{Gives, both as gives, gives-map, gives-then, gives-weaker, gives-same, gives-equal, gives-at}
use Rattle.xf_def_xpath.proofs.PlacedLaws.{WithoutNodes, plain-without}
use Rattle.xf_def_xpath.proofs.ValueAgree.{IsTruth, Premise, Agreed, none-solid, left-both, right-both, in-converted, in-all_read, strings-all, strings-same, made, plain-same, number-same, string-of_same, name-same}
use Rattle.xf_def_xpath.proofs.AgreeCalls.{Standing, ExactLaw, plain-agreed, truth-agreed, plain-mapped, truly-given}

-- those that ask nothing special of their arguments
abbrev pub is_common : Function → Bool
is_common of.choosing = false
is_common of.instance = false
is_common of.event = false
is_common of.index = false
is_common g = true

module _ (w : Comparison) (c : Focus) (node : Solid w c.node) where
  abbrev s : Setting
  s = w.setting

  abbrev t : Setting
  t = other w

  abbrev u : Setting
  u = over_shape w

  abbrev pub Known : Type 0
  Known = (x : Trace) × ExactLaw w x

  abbrev pub traces : List Known → List Trace
  traces xs = map (λ (x : Known). x.0) xs

  abbrev pub meanings : List Known → List Meaning
  meanings xs = asked.meanings (traces xs)

  -- ---- arguments

  abbrev at : ℕ → List Known → Asked
  at place xs = asked.argument place (traces xs) u c

  abbrev own : List Known → Asked
  own xs = asked.own_argument (traces xs) u c

  at-agreed : (place : ℕ) (xs : List Known) → Premise w (at place xs) → Agreed w (at place xs) (argument place (meanings xs) s c) (argument place (meanings xs) t c)
  at-agreed place [] p = record { tight = refl; given = gives (refl, λ i. no i, none-solid w) }
  at-agreed zero (x ∷ xs) p = x.1 c node p
  at-agreed (suc place) (x ∷ xs) p = at-agreed place xs p

  one-solid : (n : ℕ) → Solid w n → AllSolid w (n ∷ [])
  one-solid n h k i = elim (or-cases (k == n) false i) [ inl a ↦ same k n (eqb-true k n a) h | inr b ↦ no b ]
    where
      same : (k m : ℕ) → k ≡ m → Solid w m → Solid w k
      same k m e x = record { visit = x.visit; in_shape = ap (λ q. found q (untexted w.shape)) e ∙ x.in_shape; in_first = ap (λ q. found q (untexted w.setting.all)) e ∙ x.in_first; in_second = ap (λ q. found q (untexted w.others)) e ∙ x.in_second }

  own-agreed : (xs : List Known) → Premise w (own xs) → Agreed w (own xs) (own_argument (meanings xs) s c) (own_argument (meanings xs) t c)
  own-agreed [] p = record { tight = refl; given = gives (refl, λ i. no i, one-solid c.node node) }
  own-agreed (x ∷ xs) p = x.1 c node p

  plains-agreed : (xs : List Known) → Premise w (asked.all_converted (traces xs) u c) → Gives (λ (ps : List Plain). ⊤) (plain_arguments (meanings xs) s c) (plain_arguments (meanings xs) t c)
  plains-agreed [] p = gives tt
  plains-agreed (x ∷ xs) p =
      let a : Asked = x.0.asked u c in
      let mine : Premise w (converted u a) = left-both w (converted u a) (asked.all_converted (traces xs) u c) p in
      let rest : Premise w (asked.all_converted (traces xs) u c) = right-both w (converted u a) (asked.all_converted (traces xs) u c) p in
      gives-then (λ q. plain_arguments (meanings xs) s c >>= λ qs. Some (q ∷ qs)) (λ q. plain_arguments (meanings xs) t c >>= λ qs. Some (q ∷ qs))
      (made w (plain_of s) (plain_of t) (plain-same w) a (x.0.meaning s c) (x.0.meaning t c) (x.1 c node (in-converted w a mine)) mine) (λ q i.
      gives-then (λ qs. Some (q ∷ qs)) (λ qs. Some (q ∷ qs)) (plains-agreed xs rest) (λ qs j. gives tt))

  -- ---- what is made of an argument

  as-plain : (a : Asked) → Premise w (as_plain a) → Premise w a
  as-plain a p = record { lists = p.lists; strings = p.strings }

  texts-made : (a : Asked) (m m' : Option Value) → Agreed w a m m' → Premise w (converted u a) → Gives WithoutNodes (option_map Text (m >>= string_of s)) (option_map Text (m' >>= string_of t))
  texts-made a m m' h p = plain-mapped w Text (made w (string_of s) (string_of t) (string-of_same w) a m m' h p) (λ text. refl)

  numbers-made : (a : Asked) (m m' : Option Value) → Agreed w a m m' → Premise w (converted u a) → Gives WithoutNodes (option_map Number (m >>= number_of s)) (option_map Number (m' >>= number_of t))
  numbers-made a m m' h p = plain-mapped w Number (made w (number_of s) (number_of t) (number-same w) a m m' h p) (λ k. refl)

  of-set : (k k' : List ℕ → Option Value) (a : Asked) (m m' : Option Value) → Agreed w a m m' → ((ns : List ℕ) → ns ≡ a.set → AllSolid w ns → Gives WithoutNodes (k ns) (k' ns)) →
      Gives WithoutNodes (m >>= λ v. k (nodes_of v)) (m' >>= λ v. k' (nodes_of v))
  of-set k k' a m m' h j = gives-then (λ v. k (nodes_of v)) (λ v. k' (nodes_of v)) h.given (λ v f. j (nodes_of v) f.0 (λ n i. f.2 n (ap (has n) (sym f.0) ∙ i)))

  strings-given : (f : List (List ℕ) → Value) → ((texts : List (List ℕ)) → WithoutNodes (f texts)) → (a : Asked) (m m' : Option Value) → Agreed w a m m' → Premise w (all_read u a) →
      Gives WithoutNodes (m >>= λ v. option_map f (strings_of s (nodes_of v))) (m' >>= λ v. option_map f (strings_of t (nodes_of v)))
  strings-given f g a m m' h p = of-set (λ ns. option_map f (strings_of s ns)) (λ ns. option_map f (strings_of t ns)) a m m' h (λ ns e solid.
      plain-mapped w f (gives-equal (strings_of s ns) (strings_of t ns) (strings-same w ns (λ n i. strings-all w a (λ k j. solid k (ap (has k) e ∙ j)) p n (ap (has n) (sym e) ∙ i)))) g)

  names-given : (part : Option node_name.Name → List ℕ) (a : Asked) (m m' : Option Value) → Agreed w a m m' →
      Gives WithoutNodes (m >>= λ v. text_value s (part (first_name s.all (nodes_of v)))) (m' >>= λ v. text_value t (part (first_name t.all (nodes_of v))))
  names-given part a m m' h = of-set (λ ns. text_value s (part (first_name s.all ns))) (λ ns. text_value t (part (first_name t.all ns))) a m m' h (λ ns e solid.
      plain-mapped w Text (gives-equal (capped s.most (part (first_name s.all ns))) (capped s.most (part (first_name t.all ns))) (ap (λ name. capped s.most (part name)) (name-same w ns solid))) (λ text. refl))

  answered : (code : ℕ) {m m' : Option (List Plain)} → Gives (λ (ps : List Plain). ⊤) m m' → Gives WithoutNodes (option_map value_of_plain (m >>= s.functions code)) (option_map value_of_plain (m' >>= s.functions code))
  answered code h = plain-mapped w value_of_plain (gives-then (s.functions code) (s.functions code) h (λ ps i. gives-equal (s.functions code ps) (s.functions code ps) refl)) plain-without

  truly-answered : Standing w → (code : ℕ) → function_at code ≡ of.asking → {m m' : Option (List Plain)} → Gives (λ (ps : List Plain). ⊤) m m' → Gives IsTruth (option_map value_of_plain (m >>= s.functions code)) (option_map value_of_plain (m' >>= s.functions code))
  truly-answered stand code e h =
      gives-map value_of_plain (gives-then (s.functions code) (s.functions code) h (λ ps i. gives-same (s.functions code ps) (s.functions code ps) refl (λ p j. stand.truths code ps p e j)))
      (λ p b. (b.0, ap value_of_plain b.1))

  numbers-given : (k : List Decimal → Decimal) (xs : List Known) → Premise w (all_read u (at 0 xs)) →
      Gives WithoutNodes (argument 0 (meanings xs) s c >>= λ v. of_numbers s k (nodes_of v)) (argument 0 (meanings xs) t c >>= λ v. of_numbers t k (nodes_of v))
  numbers-given k xs p = strings-given (λ texts. Number (k (map (read_at s.given.decimals) texts))) (λ texts. refl) (at 0 xs) _ _ (at-agreed 0 xs (in-all_read w (at 0 xs) p)) p

  -- ---- branches

  abbrev branches : List Known → Asked
  branches xs = asked.computed u (at 1 xs) (at 2 xs)

  branch-text : (b : Bool) (xs : List Known) → Premise w (branches xs) → Gives (λ (text : List ℕ). ⊤) (branch b (meanings xs) s c >>= string_of s) (branch b (meanings xs) t c >>= string_of t)
  branch-text true xs p =
      let q : Premise w (converted u (at 1 xs)) = left-both w (converted u (at 1 xs)) (converted u (at 2 xs)) p in
      made w (string_of s) (string_of t) (string-of_same w) (at 1 xs) _ _ (at-agreed 1 xs (in-converted w (at 1 xs) q)) q
  branch-text false xs p =
      let q : Premise w (converted u (at 2 xs)) = right-both w (converted u (at 1 xs)) (converted u (at 2 xs)) p in
      made w (string_of s) (string_of t) (string-of_same w) (at 2 xs) _ _ (at-agreed 2 xs (in-converted w (at 2 xs) q)) q

  then-string : {A B C : Type 0} (m : Option A) (f : A → Option B) (g : B → Option C) → ((m >>= f) >>= g) ≡ (m >>= λ x. f x >>= g)
  then-string None f g = refl
  then-string (Some x) f g = refl

  branching-given : (xs : List Known) → Premise w (both (at 0 xs) (branches xs)) → Gives WithoutNodes (option_map Text (branched (meanings xs) s c >>= string_of s)) (option_map Text (branched (meanings xs) t c >>= string_of t))
  branching-given xs p =
      plain-mapped w Text (gives-at
      (then-string (argument 0 (meanings xs) s c) (λ v. branch (truth_of v) (meanings xs) s c) (string_of s))
      (then-string (argument 0 (meanings xs) t c) (λ v. branch (truth_of v) (meanings xs) t c) (string_of t))
      (gives-then (λ v. branch (truth_of v) (meanings xs) s c >>= string_of s) (λ v. branch (truth_of v) (meanings xs) t c >>= string_of t)
      (at-agreed 0 xs (left-both w (at 0 xs) (branches xs) p)).given (λ v f. branch-text (truth_of v) xs (right-both w (at 0 xs) (branches xs) p)))) (λ text. refl)

  branch-agreed : (b : Bool) (xs : List Known) → Premise w (both (at 1 xs) (at 2 xs)) → (at 1 xs).set ≡ [] → (at 2 xs).set ≡ [] → Gives WithoutNodes (branch b (meanings xs) s c) (branch b (meanings xs) t c)
  branch-agreed true xs p e i = gives-weaker (at-agreed 1 xs (left-both w (at 1 xs) (at 2 xs) p)).given (λ v f. f.0 ∙ e)
  branch-agreed false xs p e i = gives-weaker (at-agreed 2 xs (right-both w (at 1 xs) (at 2 xs) p)).given (λ v f. f.0 ∙ i)

  -- ---- functions

  pub called-agreed : (g : Function) → is_common g ≡ true → (code : ℕ) → function_at code ≡ g → Standing w → (xs : List Known) → Premise w (asked.call_asked g code (traces xs) u c) →
      Agreed w (asked.call_asked g code (traces xs) u c) (called g code (meanings xs) s c) (called g code (meanings xs) t c)
  called-agreed of.asking i code e stand xs p = truth-agreed w (asked.all_converted (traces xs) u c) _ _ (truly-answered stand code e (plains-agreed xs (record { lists = p.lists; strings = p.strings })))
  called-agreed of.plainly i code e stand xs p =
      let h : Gives WithoutNodes (option_map value_of_plain (plain_arguments (meanings xs) s c >>= s.functions code)) (option_map value_of_plain (plain_arguments (meanings xs) t c >>= s.functions code)) = answered code (plains-agreed xs p) in
      all-plain xs _ _ h
    where
      all-plain : (ys : List Known) (m m' : Option Value) → Gives WithoutNodes m m' → Agreed w (asked.all_converted (traces ys) u c) m m'
      all-plain [] m m' h = plain-agreed w [] [] m m' h
      all-plain (y ∷ ys) m m' h = plain-agreed w _ _ m m' h
  called-agreed of.owning i code e stand xs p = plain-agreed w _ _ _ _
      (answered-one code (made w (plain_of s) (plain_of t) (plain-same w) (own xs) _ _ (own-agreed xs (in-converted w (own xs) p)) p))
    where
      answered-one : (code : ℕ) {m m' : Option Plain} → Gives (λ (q : Plain). ⊤) m m' → Gives WithoutNodes (option_map value_of_plain (m >>= λ q. s.functions code (q ∷ []))) (option_map value_of_plain (m' >>= λ q. s.functions code (q ∷ [])))
      answered-one code h = plain-mapped w value_of_plain (gives-then (λ q. s.functions code (q ∷ [])) (λ q. s.functions code (q ∷ [])) h (λ q j. gives-equal (s.functions code (q ∷ [])) (s.functions code (q ∷ [])) refl)) plain-without
  called-agreed of.boolean i code e stand xs p = truth-agreed w (at 0 xs) _ _ (truly-given w (λ b. b) (at-agreed 0 xs (record { lists = p.lists; strings = p.strings })).given)
  called-agreed of.not i code e stand xs p = truth-agreed w (at 0 xs) _ _ (truly-given w std.not (at-agreed 0 xs (record { lists = p.lists; strings = p.strings })).given)
  called-agreed (of.truth b) i code e stand xs p = truth-agreed w (plainly [] []) _ _ (gives (b, refl))
  called-agreed of.choosing i code e stand xs p = no i
  called-agreed of.branching i code e stand xs p = plain-agreed w _ _ _ _ (branching-given xs p)
  called-agreed of.counting i code e stand xs p = plain-agreed w _ _ _ _ (of-set (λ ns. Some (count_of s ns)) (λ ns. Some (count_of t ns)) (at 0 xs) _ _ (at-agreed 0 xs (as-plain (at 0 xs) p)) (λ ns j solid. gives refl))
  called-agreed of.counting_filled i code e stand xs p = plain-agreed w _ _ _ _ (strings-given (λ texts. Number (whole s.given.decimals (length (filter is_filled texts)))) (λ texts. refl) (at 0 xs) _ _ (at-agreed 0 xs (in-all_read w (at 0 xs) p)) p)
  called-agreed of.adding i code e stand xs p = plain-agreed w _ _ _ _ (numbers-given total xs p)
  called-agreed of.averaging i code e stand xs p = plain-agreed w _ _ _ _ (numbers-given (average s.given.decimals) xs p)
  called-agreed of.greatest i code e stand xs p = plain-agreed w _ _ _ _ (numbers-given (extreme greater) xs p)
  called-agreed of.least i code e stand xs p = plain-agreed w _ _ _ _ (numbers-given (extreme lesser) xs p)
  called-agreed of.local_name i code e stand xs p = plain-agreed w _ _ _ _ (names-given local_part (own xs) _ _ (own-agreed xs (as-plain (own xs) p)))
  called-agreed of.name i code e stand xs p = plain-agreed w _ _ _ _ (names-given written_in (own xs) _ _ (own-agreed xs (as-plain (own xs) p)))
  called-agreed of.namespace i code e stand xs p = plain-agreed w _ _ _ _ (names-given (namespace_of s.given.bindings) (own xs) _ _ (own-agreed xs (as-plain (own xs) p)))
  called-agreed of.number i code e stand xs p = plain-agreed w _ _ _ _ (numbers-made (own xs) _ _ (own-agreed xs (in-converted w (own xs) p)) p)
  called-agreed of.string i code e stand xs p = plain-agreed w _ _ _ _ (texts-made (own xs) _ _ (own-agreed xs (in-converted w (own xs) p)) p)
  called-agreed of.current i code e stand xs p = record { tight = refl; given = gives (refl, λ j. no j, one-solid s.current stand.current) }
  called-agreed of.event i code e stand xs p = no i
  called-agreed of.index i code e stand xs p = no i
  called-agreed of.instance i code e stand xs p = no i
  called-agreed of.last i code e stand xs p = plain-agreed w [] [] _ _ (gives refl)
  called-agreed of.position i code e stand xs p = plain-agreed w [] [] _ _ (gives refl)

  -- ---- `choose` with branches that are no sets

  in_order-none : (all : List Visit) → in_order all [] ≡ []
  in_order-none all = ap (map (λ (x : Visit). x.number)) (filter-none (λ (x : Visit). has x.number []) (λ x. refl) all)

  pub choosing-agreed : (code : ℕ) (xs : List Known) → Premise w (asked.call_asked of.choosing code (traces xs) u c) → (at 1 xs).set ≡ [] → (at 2 xs).set ≡ [] →
      Agreed w (asked.call_asked of.choosing code (traces xs) u c) (called of.choosing code (meanings xs) s c) (called of.choosing code (meanings xs) t c)
  choosing-agreed code xs p e i =
      let condition : Premise w (as_plain (at 0 xs)) = left-both w (as_plain (at 0 xs)) (asked.either u (at 1 xs) (at 2 xs)) (record { lists = p.lists; strings = p.strings }) in
      let both_branches : Premise w (asked.either u (at 1 xs) (at 2 xs)) = right-both w (as_plain (at 0 xs)) (asked.either u (at 1 xs) (at 2 xs)) (record { lists = p.lists; strings = p.strings }) in
      let sides : Premise w (both (at 1 xs) (at 2 xs)) = record { lists = both_branches.lists; strings = both_branches.strings } in
      let empty : (asked.call_asked of.choosing code (traces xs) u c).set ≡ [] =
      ap (λ ns. in_order w.shape ([] ++ in_order w.shape (ns ++ (at 2 xs).set))) e ∙ ap (λ ns. in_order w.shape ([] ++ in_order w.shape ([] ++ ns))) i
      ∙ ap (λ ns. in_order w.shape ([] ++ ns)) (in_order-none w.shape) ∙ in_order-none w.shape in
      record {
        tight = ap (λ b. false || (b || (at 2 xs).is_loose)) (at-agreed 1 xs (left-both w (at 1 xs) (at 2 xs) sides)).tight ∙ (at-agreed 2 xs (right-both w (at 1 xs) (at 2 xs) sides)).tight;
        given = gives-then (λ v. branch (truth_of v) (meanings xs) s c) (λ v. branch (truth_of v) (meanings xs) t c) (at-agreed 0 xs (as-plain (at 0 xs) condition)).given (λ v f.
            gives-weaker (branch-agreed (truth_of v) xs sides e i) (λ x h. (h ∙ sym empty, λ j. no j, λ k j. no (ap (has k) (sym empty) ∙ j))));
      }
