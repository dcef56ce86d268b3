-- Functions over two forests that meet.
use Rattle.std.proofs.Common.{◌≡◌, ℕ, zero, suc, ◌==◌, Bool, true, false, not, List, [], ◌∷◌, ◌++◌, map, length, Option, Some, None, option_map, refl, sym, ap, ◌∙◌, inl, inr}
use Rattle.std.specs.Prelude.{⊤, filter}
use Rattle.std.specs.Prelude as std
use Rattle.xf_num.specs.Written.{read_at}
use Rattle.xf_def_forest.specs.declared.content.Name as node_name
use Rattle.xf_def_forest.specs.Forest.{written_in}
use Rattle.xf_def_forest.specs.Visit.{Visit, has}
use Rattle.xf_def_xpath.specs.declared.value.Value.{Value}
use Rattle.xf_def_xpath.specs.declared.value.Value.TheVariants.{Nodes, Text, Number}
use Rattle.xf_def_values.specs.declared.plain.Plain.{Plain}
use Rattle.xf_def_values.specs.Conversions.{Decimal, whole}
use Rattle.xf_def_xpath.specs.Setting.{Setting, Focus, Meaning, ◌>>=◌, capped, in_order}
use Rattle.xf_def_xpath.specs.Conversions.{nodes_of, truth_of, is_filled, number_of, string_of, plain_of, value_of_plain, strings_of}
use Rattle.xf_def_xpath.specs.Functions.{argument, own_argument, plain_arguments, text_value, count_of, of_numbers, total, average, extreme, greater, lesser, first_name, local_part, namespace_of, branch, branched, called}
use Rattle.xf_def_xpath.specs.Table.{Function, function_at}
use Rattle.xf_def_xpath.specs.Table as of
use Rattle.xf_def_xpath.specs.Asked.{Asked, Trace, found, plainly, tightly, both, as_plain, all_read, converted}
use Rattle.xf_def_xpath.specs.AskedCalls as asked
use Rattle.xf_def_xpath.specs.Agree.{untexted}
use Rattle.xf_def_xpath.proofs.VisitFacts.{or-cases, no, filter-none}
use Rattle.std.proofs.lemmas.Bool.{eqb-true}
use Rattle.xf_def_xpath.proofs.Comparison.{Comparison, other, over_shape, Solid, AllSolid}
use Rattle.xf_def_xpath.proofs.PlacedLaws.{WithoutNodes, plain-without}
use Rattle.xf_def_xpath.proofs.ValueAgree.{IsTruth, strings-same, plain-same, number-same, string-of_same}
use Rattle.xf_def_xpath.proofs.AgreeCalls.{Standing}
use Rattle.xf_def_xpath.proofs.AgreeFunctions.{is_common}
use Rattle.xf_law_recalculation.proofs.AgreeLemmas.Alike.{Alike, both as gives, alike-map, alike-then, alike-weaker, alike-same, alike-equal, alike-at}
use Rattle.xf_law_recalculation.proofs.AgreeLemmas.Meeting.{Meeting, Asks}
use Rattle.xf_law_recalculation.proofs.AgreeLemmas.LooseValues.{Fits, Agreed, tight-fits, none-solid, fits-none, left-both, right-both, in-converted, in-all_read, strings-all, made, name-same}
use Rattle.xf_law_recalculation.proofs.AgreeLemmas.LooseCalls.{MeetLaw, plain-agreed, truth-agreed, plain-mapped, truly-given}

module _ {w : Comparison} (m : Meeting w) (c : Focus) (node : Solid w c.node) where
  abbrev s : Setting
  s = w.setting

  abbrev t : Setting
  t = other w

  abbrev u : Setting
  u = over_shape w

  abbrev pub Known : Type 0
  Known = (x : Trace) × MeetLaw m x

  abbrev pub traces : List Known → List Trace
  traces xs = map (λ (x : Known). x.0) xs

  abbrev pub meanings : List Known → List Meaning
  meanings xs = asked.meanings (traces xs)

  -- ---- arguments

  abbrev at : ℕ → List Known → Asked
  at place xs = asked.argument place (traces xs) u c

  abbrev own : List Known → Asked
  own xs = asked.own_argument (traces xs) u c

  at-agreed : (place : ℕ) (xs : List Known) → Asks m (at place xs) → Agreed m (at place xs) (argument place (meanings xs) s c) (argument place (meanings xs) t c)
  at-agreed place [] p = gives (tight-fits m (plainly [] []) (Nodes []) refl (none-solid m) (λ i. no i))
  at-agreed zero (x ∷ xs) p = x.1 c node p
  at-agreed (suc place) (x ∷ xs) p = at-agreed place xs p

  one-solid : (n : ℕ) → Solid w n → AllSolid w (n ∷ [])
  one-solid n h k i = elim (or-cases (k == n) false i) [ inl a ↦ same k n (eqb-true k n a) h | inr b ↦ no b ]
    where
      same : (k m : ℕ) → k ≡ m → Solid w m → Solid w k
      same k m e x = record { visit = x.visit; in_shape = ap (λ q. found q (untexted w.shape)) e ∙ x.in_shape; in_first = ap (λ q. found q (untexted w.setting.all)) e ∙ x.in_first; in_second = ap (λ q. found q (untexted w.others)) e ∙ x.in_second }

  own-agreed : (xs : List Known) → Asks m (own xs) → Agreed m (own xs) (own_argument (meanings xs) s c) (own_argument (meanings xs) t c)
  own-agreed [] p = gives (tight-fits m (tightly (c.node ∷ [])) (Nodes (c.node ∷ [])) refl (one-solid c.node node) (λ i. no i))
  own-agreed (x ∷ xs) p = x.1 c node p

  plains-agreed : (xs : List Known) → Asks m (asked.all_converted (traces xs) u c) → Alike (λ (ps : List Plain). ⊤) (plain_arguments (meanings xs) s c) (plain_arguments (meanings xs) t c)
  plains-agreed [] p = gives tt
  plains-agreed (x ∷ xs) p =
      let a : Asked = x.0.asked u c in
      let mine : Asks m (converted u a) = left-both m (converted u a) (asked.all_converted (traces xs) u c) p in
      let rest : Asks m (asked.all_converted (traces xs) u c) = right-both m (converted u a) (asked.all_converted (traces xs) u c) p in
      alike-then (λ q. plain_arguments (meanings xs) s c >>= λ qs. Some (q ∷ qs)) (λ q. plain_arguments (meanings xs) t c >>= λ qs. Some (q ∷ qs))
      (made m (plain_of s) (plain_of t) (plain-same w) a (x.0.meaning s c) (x.0.meaning t c) (x.1 c node (in-converted m a mine)) mine) (λ q i.
      alike-then (λ qs. Some (q ∷ qs)) (λ qs. Some (q ∷ qs)) (plains-agreed xs rest) (λ qs j. gives tt))

  -- ---- what is made of an argument

  as-plain : (a : Asked) → Asks m (as_plain a) → Asks m a
  as-plain a p = record { reads = p.reads; looks = p.looks }

  texts-made : (a : Asked) (v v' : Option Value) → Agreed m a v v' → Asks m (converted u a) → Alike WithoutNodes (option_map Text (v >>= string_of s)) (option_map Text (v' >>= string_of t))
  texts-made a v v' h p = plain-mapped Text (made m (string_of s) (string_of t) (string-of_same w) a v v' h p) (λ text. refl)

  numbers-made : (a : Asked) (v v' : Option Value) → Agreed m a v v' → Asks m (converted u a) → Alike WithoutNodes (option_map Number (v >>= number_of s)) (option_map Number (v' >>= number_of t))
  numbers-made a v v' h p = plain-mapped Number (made m (number_of s) (number_of t) (number-same w) a v v' h p) (λ k. refl)

  of-set : (k k' : List ℕ → Option Value) (a : Asked) (v v' : Option Value) → Agreed m a v v' → ((x : Value) → Fits m a x → Alike WithoutNodes (k (nodes_of x)) (k' (nodes_of x))) →
      Alike WithoutNodes (v >>= λ x. k (nodes_of x)) (v' >>= λ x. k' (nodes_of x))
  of-set k k' a v v' h j = alike-then (λ x. k (nodes_of x)) (λ x. k' (nodes_of x)) h (λ x f. j x f)

  strings-given : (f : List (List ℕ) → Value) → ((texts : List (List ℕ)) → WithoutNodes (f texts)) → (a : Asked) (v v' : Option Value) → Agreed m a v v' → Asks m (all_read u a) →
      Alike WithoutNodes (v >>= λ x. option_map f (strings_of s (nodes_of x))) (v' >>= λ x. option_map f (strings_of t (nodes_of x)))
  strings-given f g a v v' h p = of-set (λ ns. option_map f (strings_of s ns)) (λ ns. option_map f (strings_of t ns)) a v v' h (λ x i.
      plain-mapped f (alike-equal (strings_of s (nodes_of x)) (strings_of t (nodes_of x)) (strings-same w (nodes_of x) (strings-all m a x i p))) g)

  names-given : (part : Option node_name.Name → List ℕ) (a : Asked) (v v' : Option Value) → Agreed m a v v' →
      Alike WithoutNodes (v >>= λ x. text_value s (part (first_name s.all (nodes_of x)))) (v' >>= λ x. text_value t (part (first_name t.all (nodes_of x))))
  names-given part a v v' h = of-set (λ ns. text_value s (part (first_name s.all ns))) (λ ns. text_value t (part (first_name t.all ns))) a v v' h (λ x i.
      plain-mapped Text (alike-equal (capped s.most (part (first_name s.all (nodes_of x)))) (capped s.most (part (first_name t.all (nodes_of x)))) (ap (λ name. capped s.most (part name)) (name-same m a.set (nodes_of x) i.good))) (λ text. refl))

  answered : (code : ℕ) {v v' : Option (List Plain)} → Alike (λ (ps : List Plain). ⊤) v v' → Alike WithoutNodes (option_map value_of_plain (v >>= s.functions code)) (option_map value_of_plain (v' >>= s.functions code))
  answered code h = plain-mapped value_of_plain (alike-then (s.functions code) (s.functions code) h (λ ps i. alike-equal (s.functions code ps) (s.functions code ps) refl)) plain-without

  truly-answered : Standing w → (code : ℕ) → function_at code ≡ of.asking → {v v' : Option (List Plain)} → Alike (λ (ps : List Plain). ⊤) v v' → Alike IsTruth (option_map value_of_plain (v >>= s.functions code)) (option_map value_of_plain (v' >>= s.functions code))
  truly-answered stand code e h =
      alike-map value_of_plain (alike-then (s.functions code) (s.functions code) h (λ ps i. alike-same (s.functions code ps) (s.functions code ps) refl (λ p j. stand.truths code ps p e j)))
      (λ p b. (b.0, ap value_of_plain b.1))

  numbers-given : (k : List Decimal → Decimal) (xs : List Known) → Asks m (all_read u (at 0 xs)) →
      Alike WithoutNodes (argument 0 (meanings xs) s c >>= λ v. of_numbers s k (nodes_of v)) (argument 0 (meanings xs) t c >>= λ v. of_numbers t k (nodes_of v))
  numbers-given k xs p = strings-given (λ texts. Number (k (map (read_at s.given.decimals) texts))) (λ texts. refl) (at 0 xs) _ _ (at-agreed 0 xs (in-all_read m (at 0 xs) p)) p

  -- ---- branches

  abbrev branches : List Known → Asked
  branches xs = asked.computed u (at 1 xs) (at 2 xs)

  branch-text : (b : Bool) (xs : List Known) → Asks m (branches xs) → Alike (λ (text : List ℕ). ⊤) (branch b (meanings xs) s c >>= string_of s) (branch b (meanings xs) t c >>= string_of t)
  branch-text true xs p =
      let q : Asks m (converted u (at 1 xs)) = left-both m (converted u (at 1 xs)) (converted u (at 2 xs)) p in
      made m (string_of s) (string_of t) (string-of_same w) (at 1 xs) _ _ (at-agreed 1 xs (in-converted m (at 1 xs) q)) q
  branch-text false xs p =
      let q : Asks m (converted u (at 2 xs)) = right-both m (converted u (at 1 xs)) (converted u (at 2 xs)) p in
      made m (string_of s) (string_of t) (string-of_same w) (at 2 xs) _ _ (at-agreed 2 xs (in-converted m (at 2 xs) q)) q

  then-string : {A B C : Type 0} (m : Option A) (f : A → Option B) (g : B → Option C) → ((m >>= f) >>= g) ≡ (m >>= λ x. f x >>= g)
  then-string None f g = refl
  then-string (Some x) f g = refl

  branching-given : (xs : List Known) → Asks m (both (at 0 xs) (branches xs)) → Alike WithoutNodes (option_map Text (branched (meanings xs) s c >>= string_of s)) (option_map Text (branched (meanings xs) t c >>= string_of t))
  branching-given xs p =
      plain-mapped Text (alike-at
      (then-string (argument 0 (meanings xs) s c) (λ v. branch (truth_of v) (meanings xs) s c) (string_of s))
      (then-string (argument 0 (meanings xs) t c) (λ v. branch (truth_of v) (meanings xs) t c) (string_of t))
      (alike-then (λ v. branch (truth_of v) (meanings xs) s c >>= string_of s) (λ v. branch (truth_of v) (meanings xs) t c >>= string_of t)
      (at-agreed 0 xs (left-both m (at 0 xs) (branches xs) p)) (λ v f. branch-text (truth_of v) xs (right-both m (at 0 xs) (branches xs) p)))) (λ text. refl)

  branch-agreed : (b : Bool) (xs : List Known) → Asks m (both (at 1 xs) (at 2 xs)) → (at 1 xs).set ≡ [] → (at 2 xs).set ≡ [] → Alike WithoutNodes (branch b (meanings xs) s c) (branch b (meanings xs) t c)
  branch-agreed true xs p e i = alike-weaker (at-agreed 1 xs (left-both m (at 1 xs) (at 2 xs) p)) (λ v f. fits-none m (at 1 xs) v f e)
  branch-agreed false xs p e i = alike-weaker (at-agreed 2 xs (right-both m (at 1 xs) (at 2 xs) p)) (λ v f. fits-none m (at 2 xs) v f i)

  -- ---- functions

  pub called-agreed : (g : Function) → is_common g ≡ true → (code : ℕ) → function_at code ≡ g → Standing w → (xs : List Known) → Asks m (asked.call_asked g code (traces xs) u c) →
      Agreed m (asked.call_asked g code (traces xs) u c) (called g code (meanings xs) s c) (called g code (meanings xs) t c)
  called-agreed of.asking i code e stand xs p = truth-agreed m (asked.all_converted (traces xs) u c) _ _ (truly-answered stand code e (plains-agreed xs (record { reads = p.reads; looks = p.looks })))
  called-agreed of.plainly i code e stand xs p =
      let h : Alike WithoutNodes (option_map value_of_plain (plain_arguments (meanings xs) s c >>= s.functions code)) (option_map value_of_plain (plain_arguments (meanings xs) t c >>= s.functions code)) = answered code (plains-agreed xs p) in
      all-plain xs _ _ h
    where
      all-plain : (ys : List Known) (v v' : Option Value) → Alike WithoutNodes v v' → Agreed m (asked.all_converted (traces ys) u c) v v'
      all-plain [] v v' h = plain-agreed m [] [] v v' h
      all-plain (y ∷ ys) v v' h = plain-agreed m _ _ v v' h
  called-agreed of.owning i code e stand xs p = plain-agreed m _ _ _ _
      (answered-one code (made m (plain_of s) (plain_of t) (plain-same w) (own xs) _ _ (own-agreed xs (in-converted m (own xs) p)) p))
    where
      answered-one : (code : ℕ) {v v' : Option Plain} → Alike (λ (q : Plain). ⊤) v v' → Alike WithoutNodes (option_map value_of_plain (v >>= λ q. s.functions code (q ∷ []))) (option_map value_of_plain (v' >>= λ q. s.functions code (q ∷ [])))
      answered-one code h = plain-mapped value_of_plain (alike-then (λ q. s.functions code (q ∷ [])) (λ q. s.functions code (q ∷ [])) h (λ q j. alike-equal (s.functions code (q ∷ [])) (s.functions code (q ∷ [])) refl)) plain-without
  called-agreed of.boolean i code e stand xs p = truth-agreed m (at 0 xs) _ _ (truly-given (λ b. b) (at-agreed 0 xs (record { reads = p.reads; looks = p.looks })))
  called-agreed of.not i code e stand xs p = truth-agreed m (at 0 xs) _ _ (truly-given std.not (at-agreed 0 xs (record { reads = p.reads; looks = p.looks })))
  called-agreed (of.truth b) i code e stand xs p = truth-agreed m (plainly [] []) _ _ (gives (b, refl))
  called-agreed of.choosing i code e stand xs p = no i
  called-agreed of.branching i code e stand xs p = plain-agreed m _ _ _ _ (branching-given xs p)
  called-agreed of.counting i code e stand xs p = plain-agreed m _ _ _ _ (of-set (λ ns. Some (count_of s ns)) (λ ns. Some (count_of t ns)) (at 0 xs) _ _ (at-agreed 0 xs (as-plain (at 0 xs) p)) (λ x j. gives refl))
  called-agreed of.counting_filled i code e stand xs p = plain-agreed m _ _ _ _ (strings-given (λ texts. Number (whole s.given.decimals (length (filter is_filled texts)))) (λ texts. refl) (at 0 xs) _ _ (at-agreed 0 xs (in-all_read m (at 0 xs) p)) p)
  called-agreed of.adding i code e stand xs p = plain-agreed m _ _ _ _ (numbers-given total xs p)
  called-agreed of.averaging i code e stand xs p = plain-agreed m _ _ _ _ (numbers-given (average s.given.decimals) xs p)
  called-agreed of.greatest i code e stand xs p = plain-agreed m _ _ _ _ (numbers-given (extreme greater) xs p)
  called-agreed of.least i code e stand xs p = plain-agreed m _ _ _ _ (numbers-given (extreme lesser) xs p)
  called-agreed of.local_name i code e stand xs p = plain-agreed m _ _ _ _ (names-given local_part (own xs) _ _ (own-agreed xs (as-plain (own xs) p)))
  called-agreed of.name i code e stand xs p = plain-agreed m _ _ _ _ (names-given written_in (own xs) _ _ (own-agreed xs (as-plain (own xs) p)))
  called-agreed of.namespace i code e stand xs p = plain-agreed m _ _ _ _ (names-given (namespace_of s.given.bindings) (own xs) _ _ (own-agreed xs (as-plain (own xs) p)))
  called-agreed of.number i code e stand xs p = plain-agreed m _ _ _ _ (numbers-made (own xs) _ _ (own-agreed xs (in-converted m (own xs) p)) p)
  called-agreed of.string i code e stand xs p = plain-agreed m _ _ _ _ (texts-made (own xs) _ _ (own-agreed xs (in-converted m (own xs) p)) p)
  called-agreed of.current i code e stand xs p = gives (tight-fits m (tightly (s.current ∷ [])) (Nodes (s.current ∷ [])) refl (one-solid s.current stand.current) (λ j. no j))
  called-agreed of.event i code e stand xs p = no i
  called-agreed of.index i code e stand xs p = no i
  called-agreed of.instance i code e stand xs p = no i
  called-agreed of.last i code e stand xs p = plain-agreed m [] [] _ _ (gives refl)
  called-agreed of.position i code e stand xs p = plain-agreed m [] [] _ _ (gives refl)

  -- ---- `choose` with branches that are no sets

  in_order-none : (all : List Visit) → in_order all [] ≡ []
  in_order-none all = ap (map (λ (x : Visit). x.number)) (filter-none (λ (x : Visit). has x.number []) (λ x. refl) all)

  pub choosing-agreed : (code : ℕ) (xs : List Known) → Asks m (asked.call_asked of.choosing code (traces xs) u c) → (at 1 xs).set ≡ [] → (at 2 xs).set ≡ [] →
      Agreed m (asked.call_asked of.choosing code (traces xs) u c) (called of.choosing code (meanings xs) s c) (called of.choosing code (meanings xs) t c)
  choosing-agreed code xs p e i =
      let condition : Asks m (as_plain (at 0 xs)) = left-both m (as_plain (at 0 xs)) (asked.either u (at 1 xs) (at 2 xs)) (record { reads = p.reads; looks = p.looks }) in
      let both_branches : Asks m (asked.either u (at 1 xs) (at 2 xs)) = right-both m (as_plain (at 0 xs)) (asked.either u (at 1 xs) (at 2 xs)) (record { reads = p.reads; looks = p.looks }) in
      let sides : Asks m (both (at 1 xs) (at 2 xs)) = record { reads = both_branches.reads; looks = both_branches.looks } in
      let empty : (asked.call_asked of.choosing code (traces xs) u c).set ≡ [] =
      ap (λ ns. in_order w.shape ([] ++ in_order w.shape (ns ++ (at 2 xs).set))) e ∙ ap (λ ns. in_order w.shape ([] ++ in_order w.shape ([] ++ ns))) i
      ∙ ap (λ ns. in_order w.shape ([] ++ ns)) (in_order-none w.shape) ∙ in_order-none w.shape in
      alike-then (λ v. branch (truth_of v) (meanings xs) s c) (λ v. branch (truth_of v) (meanings xs) t c) (at-agreed 0 xs (as-plain (at 0 xs) condition)) (λ v f.
      alike-weaker (branch-agreed (truth_of v) xs sides e i) (λ x h. tight-fits m (asked.call_asked of.choosing code (traces xs) u c) x (h ∙ sym empty) (λ k j. no (ap (has k) (sym empty) ∙ j)) (λ j. no j)))
