-- What the induction of the law of two forests keeps, and that calls of functions keep it.
use Rattle.std.proofs.Common.{◌≡◌, ℕ, zero, suc, ◌==◌, Bool, true, false, not, ◌&&◌, List, [], ◌∷◌, ◌++◌, map, Option, Some, None, option_map, refl, sym, ap, ◌∙◌, subst, inl, inr}
use Rattle.std.specs.Prelude as std
use Rattle.std.specs.List.{list_all, flat_map}
use Rattle.std.proofs.lemmas.Bool.{eqb-true}
use Rattle.xf_def_forest.specs.Visit.{Visit, has}
use Rattle.xf_def_forest.proofs.BackLaws.{and-true}
use Rattle.xf_def_xpath.specs.declared.value.Value.TheVariants.{Number}
use Rattle.xf_def_xpath.specs.Given.{document_of}
use Rattle.xf_def_xpath.specs.Setting.{Setting, Focus, Meaning, ◌>>=◌, in_order}
use Rattle.xf_def_xpath.specs.Conversions.{nodes_of, value_of_plain}
use Rattle.xf_def_xpath.specs.Functions.{set_of, instance_id, called}
use Rattle.xf_def_xpath.specs.Table.{Function, function_at}
use Rattle.xf_def_xpath.specs.Table as of
use Rattle.xf_def_xpath.specs.Asked.{Trace, LinkTrace, WalkTrace, list_around}
use Rattle.xf_def_xpath.specs.AskedCalls as asked
use Rattle.xf_def_xpath.specs.Reads.{meaning_in}
use Rattle.xf_def_xpath.specs.Exact.{Facts, LinkFacts, all_placed, all_exact, are_filled, branches, call_facts}
use Rattle.xf_def_xpath.proofs.VisitFacts.{or-cases, or-left, self-same, no, filter-none}
use Rattle.xf_def_xpath.proofs.SameKept.{has-right}
use Rattle.xf_def_xpath.proofs.BelowAgree.{flat-within}
use Rattle.xf_def_xpath.proofs.Comparison.{Comparison, other, over_shape, Solid, SameDocument}
use Rattle.xf_def_xpath.proofs.Gives.{Gives, gives-map_too, both, gives-then, gives-same}
use Rattle.xf_def_xpath.proofs.PlacedLaws.{Placed, strings, numbers, texts, plains, mapped, truths, argument-placed, plains-placed, answers, branched-placed, plain-without}
use Rattle.xf_def_xpath.proofs.ValueAgree.{Premise, Fits, Agreed}
use Rattle.xf_def_xpath.proofs.AgreeSteps.{WalkLaw}
use Rattle.xf_def_xpath.proofs.AgreeCalls.{Standing, ExactLaw}
use Rattle.xf_def_xpath.proofs.AgreeFunctions.{is_common, called-agreed, choosing-agreed}

-- ---- what the induction keeps

pub record Lawful (w : Comparison) (f : Facts) (x : Trace) : Type 0 where
  pub placed : f.is_placed ≡ true → Placed w x.meaning
  pub exact : f.is_exact ≡ true → ExactLaw w x
  pub plain : f.is_plain ≡ true → f.is_exact ≡ true → (c : Focus) → (x.asked (over_shape w) c).set ≡ []

pub record LinkLawful (w : Comparison) (l : LinkFacts) (x : LinkTrace) : Type 0 where
  pub operator : x.operator ≡ l.operator
  pub right : Lawful w l.right x.right

abbrev pub StepLawful : Comparison → Bool → WalkTrace → Type 0
StepLawful w b x = b ≡ true → WalkLaw w x

module _ (w : Comparison) where
  abbrev s : Setting
  s = w.setting

  abbrev t : Setting
  t = other w

  abbrev u : Setting
  u = over_shape w

  abbrev Pair : Type 0
  Pair = (f : Facts) × (x : Trace) × Lawful w f x

  abbrev LinkPair : Type 0
  LinkPair = (l : LinkFacts) × (x : LinkTrace) × LinkLawful w l x

  abbrev StepPair : Type 0
  StepPair = (b : Bool) × (x : WalkTrace) × StepLawful w b x

  abbrev facts_in : List Pair → List Facts
  facts_in ks = map (λ (k : Pair). k.0) ks

  abbrev traces_in : List Pair → List Trace
  traces_in ks = map (λ (k : Pair). k.1) ks

  -- ---- lists of parts

  abbrev Known : Type 0
  Known = (x : Trace) × ExactLaw w x

  exacts : (ks : List Pair) → all_exact (facts_in ks) ≡ true → (xs : List Known) × (map (λ (x : Known). x.0) xs ≡ traces_in ks)
  exacts [] h = ([], refl)
  exacts (k ∷ ks) h = let rest = exacts ks (and-true _ _ h).1 in ((k.1, k.2.exact (and-true _ _ h).0) ∷ rest.0, ap (λ l. k.1 ∷ l) rest.1)

  abbrev pub Placing : Type 0
  Placing = (m : Meaning) × Placed w m

  pub placings : (ks : List Pair) → all_placed (facts_in ks) ≡ true → (ps : List Placing) × (map (λ (p : Placing). p.0) ps ≡ map meaning_in (traces_in ks))
  placings [] h = ([], refl)
  placings (k ∷ ks) h = let rest = placings ks (and-true _ _ h).1 in ((k.1.meaning, k.2.placed (and-true _ _ h).0) ∷ rest.0, ap (λ l. k.1.meaning ∷ l) rest.1)

  -- ---- calls

  common-exact : (g : Function) → is_common g ≡ true → (code : ℕ) → function_at code ≡ g → Standing w → (ks : List Pair) → all_exact (facts_in ks) ≡ true →
      (c : Focus) → Solid w c.node → Premise w (asked.call_asked g code (traces_in ks) u c) →
      Agreed w (asked.call_asked g code (traces_in ks) u c) (called g code (map meaning_in (traces_in ks)) s c) (called g code (map meaning_in (traces_in ks)) t c)
  common-exact g i code e stand ks h c node =
      let xs = exacts ks h in
      subst (λ ts. Premise w (asked.call_asked g code ts u c) → Agreed w (asked.call_asked g code ts u c) (called g code (map meaning_in ts) s c) (called g code (map meaning_in ts) t c)) xs.1
      (called-agreed w c node g i code e stand xs.0)

  argument-empty : (place : ℕ) (ks : List Pair) → all_exact (facts_in ks) ≡ true → list_all (λ (x : Facts). x.is_plain) (facts_in ks) ≡ true → (c : Focus) → (asked.argument place (traces_in ks) u c).set ≡ []
  argument-empty place [] h i c = refl
  argument-empty zero (k ∷ ks) h i c = k.2.plain (and-true _ _ i).0 (and-true _ _ h).0 c
  argument-empty (suc place) (k ∷ ks) h i c = argument-empty place ks (and-true _ _ h).1 (and-true _ _ i).1 c

  branch-empty : (place : ℕ) (ks : List Pair) → all_exact (facts_in ks) ≡ true → list_all (λ (x : Facts). x.is_plain) (branches (facts_in ks)) ≡ true → (c : Focus) → (asked.argument (suc place) (traces_in ks) u c).set ≡ []
  branch-empty place [] h i c = refl
  branch-empty place (k ∷ ks) h i c = argument-empty place ks (and-true _ _ h).1 i c

  choosing-exact : (code : ℕ) (ks : List Pair) → all_exact (facts_in ks) ≡ true → list_all (λ (x : Facts). x.is_plain) (branches (facts_in ks)) ≡ true →
      (c : Focus) → Solid w c.node → Premise w (asked.call_asked of.choosing code (traces_in ks) u c) →
      Agreed w (asked.call_asked of.choosing code (traces_in ks) u c) (called of.choosing code (map meaning_in (traces_in ks)) s c) (called of.choosing code (map meaning_in (traces_in ks)) t c)
  choosing-exact code ks h i c node =
      let xs = exacts ks h in
      subst (λ ts. (asked.argument 1 ts u c).set ≡ [] → (asked.argument 2 ts u c).set ≡ [] → Premise w (asked.call_asked of.choosing code ts u c) → Agreed w (asked.call_asked of.choosing code ts u c) (called of.choosing code (map meaning_in ts) s c) (called of.choosing code (map meaning_in ts) t c)) xs.1
      (λ j l p. choosing-agreed w c node code xs.0 p j l) (branch-empty 0 ks h i c) (branch-empty 1 ks h i c)

  -- an instance whose id is written
  id-placed : (ps : List Placing) (c : Focus) → Gives (λ id. instance_id (map (λ (p : Placing). p.0) ps) u c ≡ Some id) (instance_id (map (λ (p : Placing). p.0) ps) s c) (instance_id (map (λ (p : Placing). p.0) ps) t c)
  id-placed [] c = both refl
  id-placed (p ∷ ps) c = strings w c.node c.node c.node c.position c.size _ _ _ (p.1 c.node c.node c.node c.position c.size)

  abbrev document_in : Setting → List ℕ → Option ℕ
  document_in x id = document_of x.model id x.given.documents

  abbrev instance_set : List Pair → ℕ → Focus → List ℕ
  instance_set ks code c = asked.nodes_if (called of.instance code (map meaning_in (traces_in ks)) u c)

  instance-fits : (code : ℕ) → Standing w → (ks : List Pair) (c : Focus) → Premise w (asked.call_asked of.instance code (traces_in ks) u c) → (id : List ℕ) → instance_id (map meaning_in (traces_in ks)) u c ≡ Some id →
      (set_of (document_in t id) ≡ set_of (document_in s id)) × Fits w (asked.call_asked of.instance code (traces_in ks) u c) (set_of (document_in s id))
  instance-fits code stand ks c p id e = by (document_in u id) refl
    where
      found-set : instance_set ks code c ≡ nodes_of (set_of (document_in u id))
      found-set = ap (λ m. asked.nodes_if (option_map (λ id. set_of (document_in u id)) m)) e

      by : (m : Option ℕ) → document_in u id ≡ m → (set_of (document_in t id) ≡ set_of (document_in s id)) × Fits w (asked.call_asked of.instance code (traces_in ks) u c) (set_of (document_in s id))
      by None i =
          let gone = stand.absent id i in
          let none : instance_set ks code c ≡ [] = found-set ∙ ap (λ m. nodes_of (set_of m)) i in
          (ap set_of (gone.1 ∙ sym gone.0), (ap (λ m. nodes_of (set_of m)) gone.0 ∙ sym none, λ j. no j, λ k j. no (ap (has k) (sym none) ∙ j)))
      by (Some n) i =
          let one : instance_set ks code c ≡ n ∷ [] = found-set ∙ ap (λ m. nodes_of (set_of m)) i in
          let in_set : has n (instance_set ks code c) ≡ true = ap (has n) one ∙ or-left (n == n) false (self-same n) in
          let d : SameDocument w id n = p.lists.same id n i (λ m j. has-right m (asked.all_converted (traces_in ks) u c).looks (flat_map (list_around u.all) (instance_set ks code c)) (flat-within (list_around u.all) n (instance_set ks code c) in_set m j)) in (
            ap set_of (d.second ∙ sym d.first),
            (
              ap (λ m. nodes_of (set_of m)) d.first ∙ sym one,
              λ j. no j,
              λ k j. elim (or-cases (k == n) false (ap (has k) (sym one) ∙ j)) [ inl a ↦ subst (Solid w) (sym (eqb-true k n a)) d.solid | inr b ↦ no b ],
            ),
          )

  instance-exact : (code : ℕ) → Standing w → (ks : List Pair) → all_placed (facts_in ks) ≡ true → (c : Focus) → Premise w (asked.call_asked of.instance code (traces_in ks) u c) →
      Agreed w (asked.call_asked of.instance code (traces_in ks) u c) (called of.instance code (map meaning_in (traces_in ks)) s c) (called of.instance code (map meaning_in (traces_in ks)) t c)
  instance-exact code stand ks h c p =
      let ps = placings ks h in
      let ids = subst (λ ms. Gives (λ id. instance_id ms u c ≡ Some id) (instance_id ms s c) (instance_id ms t c)) ps.1 (id-placed ps.0 c) in
      record { tight = refl; given = gives-map_too (λ id. set_of (document_in s id)) (λ id. set_of (document_in t id)) ids (instance-fits code stand ks c p) }

  pub call-exact : (g : Function) (code : ℕ) → function_at code ≡ g → Standing w → (ks : List Pair) → (call_facts g (facts_in ks)).is_exact ≡ true →
      (c : Focus) → Solid w c.node → Premise w (asked.call_asked g code (traces_in ks) u c) →
      Agreed w (asked.call_asked g code (traces_in ks) u c) (called g code (map meaning_in (traces_in ks)) s c) (called g code (map meaning_in (traces_in ks)) t c)
  call-exact of.asking code e stand ks h = common-exact of.asking refl code e stand ks h
  call-exact of.plainly code e stand ks h = common-exact of.plainly refl code e stand ks h
  call-exact of.owning code e stand ks h = common-exact of.owning refl code e stand ks h
  call-exact of.boolean code e stand ks h = common-exact of.boolean refl code e stand ks h
  call-exact of.not code e stand ks h = common-exact of.not refl code e stand ks h
  call-exact (of.truth b) code e stand ks h = λ c node p. called-agreed w c node (of.truth b) refl code e stand [] p
  call-exact of.choosing code e stand ks h = choosing-exact code ks (and-true _ _ h).0 (and-true _ _ h).1
  call-exact of.branching code e stand ks h = common-exact of.branching refl code e stand ks h
  call-exact of.counting code e stand ks h = common-exact of.counting refl code e stand ks h
  call-exact of.counting_filled code e stand ks h = common-exact of.counting_filled refl code e stand ks h
  call-exact of.adding code e stand ks h = common-exact of.adding refl code e stand ks h
  call-exact of.averaging code e stand ks h = common-exact of.averaging refl code e stand ks h
  call-exact of.greatest code e stand ks h = common-exact of.greatest refl code e stand ks h
  call-exact of.least code e stand ks h = common-exact of.least refl code e stand ks h
  call-exact of.local_name code e stand ks h = common-exact of.local_name refl code e stand ks h
  call-exact of.name code e stand ks h = common-exact of.name refl code e stand ks h
  call-exact of.namespace code e stand ks h = common-exact of.namespace refl code e stand ks h
  call-exact of.number code e stand ks h = common-exact of.number refl code e stand ks h
  call-exact of.string code e stand ks h = common-exact of.string refl code e stand ks h
  call-exact of.current code e stand ks h = λ c node p. called-agreed w c node of.current refl code e stand [] p
  call-exact of.event code e stand ks h = no h
  call-exact of.index code e stand ks h = no h
  call-exact of.instance code e stand ks h = λ c node p. instance-exact code stand ks h c p
  call-exact of.last code e stand ks h = λ c node p. called-agreed w c node of.last refl code e stand [] p
  call-exact of.position code e stand ks h = λ c node p. called-agreed w c node of.position refl code e stand [] p

  -- ---- calls by position alone

  abbrev same : List Placing → List Meaning
  same ps = map (λ (p : Placing). p.0) ps

  placed-of : (g : Function) (code : ℕ) → (call_facts g []).is_placed ≡ true → (ps : List Placing) → Placed w (called g code (same ps))
  placed-of of.asking code h ps = λ n n' n'' position size. answers w n n' n'' position size code _ _ _ (plains-placed w n n' n'' position size ps)
  placed-of of.plainly code h ps = λ n n' n'' position size. answers w n n' n'' position size code _ _ _ (plains-placed w n n' n'' position size ps)
  placed-of of.boolean code h ps = λ n n' n'' position size. truths w n n' n'' position size (λ b. b) _ _ _ (argument-placed w n n' n'' position size 0 ps)
  placed-of of.not code h ps = λ n n' n'' position size. truths w n n' n'' position size std.not _ _ _ (argument-placed w n n' n'' position size 0 ps)
  placed-of (of.truth b) code h ps = λ n n' n'' position size. both (refl, refl)
  placed-of of.choosing code h ps = λ n n' n'' position size. branched-placed w n n' n'' position size ps
  placed-of of.branching code h ps = λ n n' n'' position size. texts w n n' n'' position size _ _ _ (strings w n n' n'' position size _ _ _ (branched-placed w n n' n'' position size ps))
  placed-of of.last code h ps = λ n n' n'' position size. both (refl, refl)
  placed-of of.position code h ps = λ n n' n'' position size. both (refl, refl)
  placed-of of.owning code h ps = no h
  placed-of of.number code h ps = no h
  placed-of of.string code h ps = no h
  placed-of of.counting code h ps = no h
  placed-of of.counting_filled code h ps = no h
  placed-of of.adding code h ps = no h
  placed-of of.averaging code h ps = no h
  placed-of of.greatest code h ps = no h
  placed-of of.least code h ps = no h
  placed-of of.local_name code h ps = no h
  placed-of of.name code h ps = no h
  placed-of of.namespace code h ps = no h
  placed-of of.current code h ps = no h
  placed-of of.event code h ps = no h
  placed-of of.index code h ps = no h
  placed-of of.instance code h ps = no h

  -- those that need their argument written
  owning-placed : (code : ℕ) (p : Placing) (rest : List Placing) → Placed w (called of.owning code (p.0 ∷ same rest))
  owning-placed code p rest n n' n'' position size =
      mapped w n n' n'' position size _ _ _ value_of_plain
      (gives-then (λ q. s.functions code (q ∷ [])) (λ q. s.functions code (q ∷ [])) (plains w n n' n'' position size _ _ _ (p.1 n n' n'' position size)) (λ q e.
      gives-same (s.functions code (q ∷ [])) (s.functions code (q ∷ [])) refl (λ r j. ap (λ m. m >>= λ x. w.functions code (x ∷ [])) e ∙ w.extend code (q ∷ []) r j))) plain-without

  number-placed : (code : ℕ) (p : Placing) (rest : List Placing) → Placed w (called of.number code (p.0 ∷ same rest))
  number-placed code p rest n n' n'' position size = mapped w n n' n'' position size _ _ _ Number (numbers w n n' n'' position size _ _ _ (p.1 n n' n'' position size)) (λ k. refl)

  string-placed : (code : ℕ) (p : Placing) (rest : List Placing) → Placed w (called of.string code (p.0 ∷ same rest))
  string-placed code p rest n n' n'' position size = texts w n n' n'' position size _ _ _ (strings w n n' n'' position size _ _ _ (p.1 n n' n'' position size))

  written : (g : Function) (code : ℕ) → ((p : Placing) (rest : List Placing) → Placed w (called g code (p.0 ∷ same rest))) → (ks : List Pair) → (are_filled (facts_in ks) && all_placed (facts_in ks)) ≡ true → Placed w (called g code (map meaning_in (traces_in ks)))
  written g code h [] i = no i
  written g code h (k ∷ ks) i =
      let rest = placings ks (and-true k.0.is_placed (all_placed (facts_in ks)) i).1 in
      subst (λ ms. Placed w (called g code (k.1.meaning ∷ ms))) rest.1 (h (k.1.meaning, k.2.placed (and-true k.0.is_placed (all_placed (facts_in ks)) i).0) rest.0)

  unwritten : (g : Function) (code : ℕ) → (call_facts g []).is_placed ≡ true → (ks : List Pair) → all_placed (facts_in ks) ≡ true → Placed w (called g code (map meaning_in (traces_in ks)))
  unwritten g code i ks h = let ps = placings ks h in subst (λ ms. Placed w (called g code ms)) ps.1 (placed-of g code i ps.0)

  pub call-placed : (g : Function) (code : ℕ) (ks : List Pair) → (call_facts g (facts_in ks)).is_placed ≡ true → Placed w (called g code (map meaning_in (traces_in ks)))
  call-placed of.asking code ks h = unwritten of.asking code refl ks h
  call-placed of.plainly code ks h = unwritten of.plainly code refl ks h
  call-placed of.boolean code ks h = unwritten of.boolean code refl ks h
  call-placed of.not code ks h = unwritten of.not code refl ks h
  call-placed of.choosing code ks h = unwritten of.choosing code refl ks h
  call-placed of.branching code ks h = unwritten of.branching code refl ks h
  call-placed (of.truth b) code ks h = λ n n' n'' position size. both (refl, refl)
  call-placed of.last code ks h = λ n n' n'' position size. both (refl, refl)
  call-placed of.position code ks h = λ n n' n'' position size. both (refl, refl)
  call-placed of.owning code ks h = written of.owning code (owning-placed code) ks h
  call-placed of.number code ks h = written of.number code (number-placed code) ks h
  call-placed of.string code ks h = written of.string code (string-placed code) ks h
  call-placed of.counting code ks h = no h
  call-placed of.counting_filled code ks h = no h
  call-placed of.adding code ks h = no h
  call-placed of.averaging code ks h = no h
  call-placed of.greatest code ks h = no h
  call-placed of.least code ks h = no h
  call-placed of.local_name code ks h = no h
  call-placed of.name code ks h = no h
  call-placed of.namespace code ks h = no h
  call-placed of.current code ks h = no h
  call-placed of.event code ks h = no h
  call-placed of.index code ks h = no h
  call-placed of.instance code ks h = no h

  -- ---- calls that give no nodes

  in_order-none : (all : List Visit) → in_order all [] ≡ []
  in_order-none all = ap (map (λ (x : Visit). x.number)) (filter-none (λ (x : Visit). has x.number []) (λ x. refl) all)

  converted-empty : (ks : List Pair) (c : Focus) → (asked.all_converted (traces_in ks) u c).set ≡ []
  converted-empty [] c = refl
  converted-empty (k ∷ ks) c = refl

  choosing-empty : (a b : List ℕ) → a ≡ [] → b ≡ [] → in_order w.shape ([] ++ in_order w.shape (a ++ b)) ≡ []
  choosing-empty a b e i =
      ap (λ ns. in_order w.shape ([] ++ in_order w.shape (ns ++ b))) e ∙ ap (λ ns. in_order w.shape ([] ++ in_order w.shape ([] ++ ns))) i
      ∙ ap (λ ns. in_order w.shape ([] ++ ns)) (in_order-none w.shape) ∙ in_order-none w.shape

  pub call-plain : (g : Function) (code : ℕ) (ks : List Pair) → (call_facts g (facts_in ks)).is_plain ≡ true → (call_facts g (facts_in ks)).is_exact ≡ true → (c : Focus) → (asked.call_asked g code (traces_in ks) u c).set ≡ []
  call-plain of.asking code ks i h c = refl
  call-plain of.plainly code ks i h c = converted-empty ks c
  call-plain of.owning code ks i h c = refl
  call-plain of.boolean code ks i h c = refl
  call-plain of.not code ks i h c = refl
  call-plain (of.truth b) code ks i h c = refl
  call-plain of.choosing code ks i h c = choosing-empty _ _ (branch-empty 0 ks (and-true _ _ h).0 (and-true _ _ h).1 c) (branch-empty 1 ks (and-true _ _ h).0 (and-true _ _ h).1 c)
  call-plain of.branching code ks i h c = refl
  call-plain of.counting code ks i h c = refl
  call-plain of.counting_filled code ks i h c = refl
  call-plain of.adding code ks i h c = refl
  call-plain of.averaging code ks i h c = refl
  call-plain of.greatest code ks i h c = refl
  call-plain of.least code ks i h c = refl
  call-plain of.local_name code ks i h c = refl
  call-plain of.name code ks i h c = refl
  call-plain of.namespace code ks i h c = refl
  call-plain of.number code ks i h c = refl
  call-plain of.string code ks i h c = refl
  call-plain of.current code ks i h c = no i
  call-plain of.event code ks i h c = no i
  call-plain of.index code ks i h c = no h
  call-plain of.instance code ks i h c = no i
  call-plain of.last code ks i h c = refl
  call-plain of.position code ks i h c = refl
