-- Calls of functions over two forests that meet.
use Rattle.std.proofs.Common.{◌≡◌, ℕ, zero, suc, ◌==◌, true, false, List, [], ◌∷◌, ◌++◌, map, Option, Some, None, option_map, refl, sym, ap, ◌∙◌, subst, inl, inr}
use Rattle.std.specs.List.{list_all, flat_map}
use Rattle.std.proofs.lemmas.Bool.{eqb-true}
use Rattle.xf_def_forest.specs.Visit.{Visit, has}
use Rattle.xf_def_forest.proofs.BackLaws.{and-true}
use Rattle.xf_def_xpath.specs.Given.{document_of}
use Rattle.xf_def_xpath.specs.Setting.{Setting, Focus, Meaning, in_order}
use Rattle.xf_def_xpath.specs.Conversions.{nodes_of}
use Rattle.xf_def_xpath.specs.Functions.{set_of, instance_id, called}
use Rattle.xf_def_xpath.specs.Table.{Function, function_at}
use Rattle.xf_def_xpath.specs.Table as of
use Rattle.xf_def_xpath.specs.Asked.{Trace, list_around}
use Rattle.xf_def_xpath.specs.AskedCalls as asked
use Rattle.xf_def_xpath.specs.Reads.{meaning_in}
use Rattle.xf_def_xpath.specs.Exact.{Facts, all_placed, all_exact, branches, call_facts}
use Rattle.xf_def_xpath.proofs.VisitFacts.{or-cases, or-left, self-same, no, filter-none}
use Rattle.xf_def_xpath.proofs.SameKept.{has-right}
use Rattle.xf_def_xpath.proofs.BelowAgree.{flat-within}
use Rattle.xf_def_xpath.proofs.Comparison.{Comparison, other, over_shape, Solid, SameDocument}
use Rattle.xf_def_xpath.proofs.Gives.{Gives}
use Rattle.xf_def_xpath.proofs.Gives as given
use Rattle.xf_def_xpath.proofs.PlacedLaws.{Placed, strings}
use Rattle.xf_def_xpath.proofs.Agreement.{swapped}
use Rattle.xf_def_xpath.proofs.AgreeCalls.{Standing}
use Rattle.xf_def_xpath.proofs.AgreeFunctions.{is_common}
use Rattle.xf_law_recalculation.proofs.AgreeLemmas.Alike.{Alike, alike-map_too, alike-of, Placing, meanings_of, at_one, at-plain}
use Rattle.xf_law_recalculation.proofs.AgreeLemmas.Meeting.{Meeting, Asks}
use Rattle.xf_law_recalculation.proofs.AgreeLemmas.LooseValues.{Fits, Agreed, tight-fits}
use Rattle.xf_law_recalculation.proofs.AgreeLemmas.LooseCalls.{MeetLaw}
use Rattle.xf_law_recalculation.proofs.AgreeLemmas.LooseFunctions.{called-agreed, choosing-agreed}
use Rattle.xf_law_recalculation.proofs.AgreeLemmas.LoosePlaced.{Part, facts_in, traces_in, placings}

module _ {w : Comparison} (m : Meeting w) where
  abbrev s : Setting
  s = w.setting

  abbrev t : Setting
  t = other w

  abbrev u : Setting
  u = over_shape w

  abbrev Pair : Type 0
  Pair = Part m

  -- ---- lists of parts

  abbrev Known : Type 0
  Known = (x : Trace) × MeetLaw m x

  exacts : (ks : List Pair) → all_exact (facts_in m ks) ≡ true → (xs : List Known) × (map (λ (x : Known). x.0) xs ≡ traces_in m ks)
  exacts [] h = ([], refl)
  exacts (k ∷ ks) h = let rest = exacts ks (and-true _ _ h).1 in ((k.1, k.2.exact (and-true _ _ h).0) ∷ rest.0, ap (λ l. k.1 ∷ l) rest.1)

  -- ---- calls

  common-exact : (g : Function) → is_common g ≡ true → (code : ℕ) → function_at code ≡ g → Standing w → (ks : List Pair) → all_exact (facts_in m ks) ≡ true →
      (c : Focus) → Solid w c.node → Asks m (asked.call_asked g code (traces_in m ks) u c) →
      Agreed m (asked.call_asked g code (traces_in m ks) u c) (called g code (map meaning_in (traces_in m ks)) s c) (called g code (map meaning_in (traces_in m ks)) t c)
  common-exact g i code e stand ks h c node =
      let xs = exacts ks h in
      subst (λ ts. Asks m (asked.call_asked g code ts u c) → Agreed m (asked.call_asked g code ts u c) (called g code (map meaning_in ts) s c) (called g code (map meaning_in ts) t c)) xs.1
      (called-agreed m c node g i code e stand xs.0)

  argument-empty : (place : ℕ) (ks : List Pair) → all_exact (facts_in m ks) ≡ true → list_all (λ (x : Facts). x.is_plain) (facts_in m ks) ≡ true → (c : Focus) → (asked.argument place (traces_in m ks) u c).set ≡ []
  argument-empty place [] h i c = refl
  argument-empty zero (k ∷ ks) h i c = k.2.plain (and-true _ _ i).0 (and-true _ _ h).0 c
  argument-empty (suc place) (k ∷ ks) h i c = argument-empty place ks (and-true _ _ h).1 (and-true _ _ i).1 c

  branch-empty : (place : ℕ) (ks : List Pair) → all_exact (facts_in m ks) ≡ true → list_all (λ (x : Facts). x.is_plain) (branches (facts_in m ks)) ≡ true → (c : Focus) → (asked.argument (suc place) (traces_in m ks) u c).set ≡ []
  branch-empty place [] h i c = refl
  branch-empty place (k ∷ ks) h i c = argument-empty place ks (and-true _ _ h).1 i c

  choosing-exact : (code : ℕ) (ks : List Pair) → all_exact (facts_in m ks) ≡ true → list_all (λ (x : Facts). x.is_plain) (branches (facts_in m ks)) ≡ true →
      (c : Focus) → Solid w c.node → Asks m (asked.call_asked of.choosing code (traces_in m ks) u c) →
      Agreed m (asked.call_asked of.choosing code (traces_in m ks) u c) (called of.choosing code (map meaning_in (traces_in m ks)) s c) (called of.choosing code (map meaning_in (traces_in m ks)) t c)
  choosing-exact code ks h i c node =
      let xs = exacts ks h in
      subst (λ ts. (asked.argument 1 ts u c).set ≡ [] → (asked.argument 2 ts u c).set ≡ [] → Asks m (asked.call_asked of.choosing code ts u c) → Agreed m (asked.call_asked of.choosing code ts u c) (called of.choosing code (map meaning_in ts) s c) (called of.choosing code (map meaning_in ts) t c)) xs.1
      (λ j l p. choosing-agreed m c node code xs.0 p j l) (branch-empty 0 ks h i c) (branch-empty 1 ks h i c)

  -- an instance whose id is written
  id-placed : (y : Comparison) (ps : List ((p : Meaning) × Placed y p)) (c : Focus) →
      Gives (λ id. instance_id (map (λ (p : (p : Meaning) × Placed y p). p.0) ps) (over_shape y) c ≡ Some id) (instance_id (map (λ (p : (p : Meaning) × Placed y p). p.0) ps) y.setting c) (instance_id (map (λ (p : (p : Meaning) × Placed y p). p.0) ps) (other y) c)
  id-placed y [] c = given.both refl
  id-placed y (p ∷ ps) c = strings y c.node c.node c.node c.position c.size _ _ _ (p.1 c.node c.node c.node c.position c.size)

  id-alike : (ps : List Placing) (c : Focus) → Alike (λ id. instance_id (meanings_of ps) u c ≡ Some id) (instance_id (meanings_of ps) s c) (instance_id (meanings_of ps) t c)
  id-alike ps c = alike-of (instance_id (meanings_of ps) s c) (instance_id (meanings_of ps) t c)
      (subst (λ ms. Gives (λ id. instance_id ms u c ≡ Some id) (instance_id ms s c) (instance_id ms t c)) (at-plain w ps) (id-placed w (at_one w ps) c))
      (subst (λ ms. Gives (λ id. instance_id ms u c ≡ Some id) (instance_id ms t c) (instance_id ms s c)) (at-plain (swapped w) ps) (id-placed (swapped w) (at_one (swapped w) ps) c))

  abbrev document_in : Setting → List ℕ → Option ℕ
  document_in x id = document_of x.model id x.given.documents

  abbrev instance_set : List Pair → ℕ → Focus → List ℕ
  instance_set ks code c = asked.nodes_if (called of.instance code (map meaning_in (traces_in m ks)) u c)

  instance-fits : (code : ℕ) → Standing w → (ks : List Pair) (c : Focus) → Asks m (asked.call_asked of.instance code (traces_in m ks) u c) → (id : List ℕ) → instance_id (map meaning_in (traces_in m ks)) u c ≡ Some id →
      (set_of (document_in t id) ≡ set_of (document_in s id)) × Fits m (asked.call_asked of.instance code (traces_in m ks) u c) (set_of (document_in s id))
  instance-fits code stand ks c p id e = by (document_in u id) refl
    where
      found-set : instance_set ks code c ≡ nodes_of (set_of (document_in u id))
      found-set = ap (λ m. asked.nodes_if (option_map (λ id. set_of (document_in u id)) m)) e

      by : (o : Option ℕ) → document_in u id ≡ o → (set_of (document_in t id) ≡ set_of (document_in s id)) × Fits m (asked.call_asked of.instance code (traces_in m ks) u c) (set_of (document_in s id))
      by None i =
          let gone = stand.absent id i in
          let none : instance_set ks code c ≡ [] = found-set ∙ ap (λ m. nodes_of (set_of m)) i in
          (ap set_of (gone.1 ∙ sym gone.0), tight-fits m (asked.call_asked of.instance code (traces_in m ks) u c) (set_of (document_in s id)) (ap (λ o. nodes_of (set_of o)) gone.0 ∙ sym none) (λ k j. no (ap (has k) (sym none) ∙ j)) (λ j. no j))
      by (Some n) i =
          let one : instance_set ks code c ≡ n ∷ [] = found-set ∙ ap (λ m. nodes_of (set_of m)) i in
          let in_set : has n (instance_set ks code c) ≡ true = ap (has n) one ∙ or-left (n == n) false (self-same n) in
          let d : SameDocument w id n = m.agree.same id n i (λ q j. p.looks q (has-right q (asked.all_converted (traces_in m ks) u c).looks (flat_map (list_around u.all) (instance_set ks code c)) (flat-within (list_around u.all) n (instance_set ks code c) in_set q j))) in (
            ap set_of (d.second ∙ sym d.first),
            tight-fits m (asked.call_asked of.instance code (traces_in m ks) u c) (set_of (document_in s id)) (ap (λ o. nodes_of (set_of o)) d.first ∙ sym one)
                (λ k j. elim (or-cases (k == n) false (ap (has k) (sym one) ∙ j)) [ inl a ↦ subst (Solid w) (sym (eqb-true k n a)) d.solid | inr b ↦ no b ]) (λ j. no j),
          )

  instance-exact : (code : ℕ) → Standing w → (ks : List Pair) → all_placed (facts_in m ks) ≡ true → (c : Focus) → Asks m (asked.call_asked of.instance code (traces_in m ks) u c) →
      Agreed m (asked.call_asked of.instance code (traces_in m ks) u c) (called of.instance code (map meaning_in (traces_in m ks)) s c) (called of.instance code (map meaning_in (traces_in m ks)) t c)
  instance-exact code stand ks h c p =
      let ps = placings m ks h in
      let ids = subst (λ ms. Alike (λ id. instance_id ms u c ≡ Some id) (instance_id ms s c) (instance_id ms t c)) ps.1 (id-alike ps.0 c) in
      alike-map_too (λ id. set_of (document_in s id)) (λ id. set_of (document_in t id)) ids (instance-fits code stand ks c p)

  pub call-exact : (g : Function) (code : ℕ) → function_at code ≡ g → Standing w → (ks : List Pair) → (call_facts g (facts_in m ks)).is_exact ≡ true →
      (c : Focus) → Solid w c.node → Asks m (asked.call_asked g code (traces_in m ks) u c) →
      Agreed m (asked.call_asked g code (traces_in m ks) u c) (called g code (map meaning_in (traces_in m ks)) s c) (called g code (map meaning_in (traces_in m ks)) t c)
  call-exact of.asking code e stand ks h = common-exact of.asking refl code e stand ks h
  call-exact of.plainly code e stand ks h = common-exact of.plainly refl code e stand ks h
  call-exact of.owning code e stand ks h = common-exact of.owning refl code e stand ks h
  call-exact of.boolean code e stand ks h = common-exact of.boolean refl code e stand ks h
  call-exact of.not code e stand ks h = common-exact of.not refl code e stand ks h
  call-exact (of.truth b) code e stand ks h = λ c node p. called-agreed m c node (of.truth b) refl code e stand [] p
  call-exact of.choosing code e stand ks h = choosing-exact code ks (and-true _ _ h).0 (and-true _ _ h).1
  call-exact of.branching code e stand ks h = common-exact of.branching refl code e stand ks h
  call-exact of.counting code e stand ks h = common-exact of.counting refl code e stand ks h
  call-exact of.counting_filled code e stand ks h = common-exact of.counting_filled refl code e stand ks h
  call-exact of.adding code e stand ks h = common-exact of.adding refl code e stand ks h
  call-exact of.averaging code e stand ks h = common-exact of.averaging refl code e stand ks h
  call-exact of.greatest code e stand ks h = common-exact of.greatest refl code e stand ks h
  call-exact of.least code e stand ks h = common-exact of.least refl code e stand ks h
  call-exact of.local_name code e stand ks h = common-exact of.local_name refl code e stand ks h
  call-exact of.name code e stand ks h = common-exact of.name refl code e stand ks h
  call-exact of.namespace code e stand ks h = common-exact of.namespace refl code e stand ks h
  call-exact of.number code e stand ks h = common-exact of.number refl code e stand ks h
  call-exact of.string code e stand ks h = common-exact of.string refl code e stand ks h
  call-exact of.current code e stand ks h = λ c node p. called-agreed m c node of.current refl code e stand [] p
  call-exact of.event code e stand ks h = no h
  call-exact of.index code e stand ks h = no h
  call-exact of.instance code e stand ks h = λ c node p. instance-exact code stand ks h c p
  call-exact of.last code e stand ks h = λ c node p. called-agreed m c node of.last refl code e stand [] p
  call-exact of.position code e stand ks h = λ c node p. called-agreed m c node of.position refl code e stand [] p

  -- ---- calls that give no nodes

  in_order-none : (all : List Visit) → in_order all [] ≡ []
  in_order-none all = ap (map (λ (x : Visit). x.number)) (filter-none (λ (x : Visit). has x.number []) (λ x. refl) all)

  converted-empty : (ks : List Pair) (c : Focus) → (asked.all_converted (traces_in m ks) u c).set ≡ []
  converted-empty [] c = refl
  converted-empty (k ∷ ks) c = refl

  choosing-empty : (a b : List ℕ) → a ≡ [] → b ≡ [] → in_order w.shape ([] ++ in_order w.shape (a ++ b)) ≡ []
  choosing-empty a b e i =
      ap (λ ns. in_order w.shape ([] ++ in_order w.shape (ns ++ b))) e ∙ ap (λ ns. in_order w.shape ([] ++ in_order w.shape ([] ++ ns))) i
      ∙ ap (λ ns. in_order w.shape ([] ++ ns)) (in_order-none w.shape) ∙ in_order-none w.shape

  pub call-plain : (g : Function) (code : ℕ) (ks : List Pair) → (call_facts g (facts_in m ks)).is_plain ≡ true → (call_facts g (facts_in m ks)).is_exact ≡ true → (c : Focus) → (asked.call_asked g code (traces_in m ks) u c).set ≡ []
  call-plain of.asking code ks i h c = refl
  call-plain of.plainly code ks i h c = converted-empty ks c
  call-plain of.owning code ks i h c = refl
  call-plain of.boolean code ks i h c = refl
  call-plain of.not code ks i h c = refl
  call-plain (of.truth b) code ks i h c = refl
  call-plain of.choosing code ks i h c = choosing-empty _ _ (branch-empty 0 ks (and-true _ _ h).0 (and-true _ _ h).1 c) (branch-empty 1 ks (and-true _ _ h).0 (and-true _ _ h).1 c)
  call-plain of.branching code ks i h c = refl
  call-plain of.counting code ks i h c = refl
  call-plain of.counting_filled code ks i h c = refl
  call-plain of.adding code ks i h c = refl
  call-plain of.averaging code ks i h c = refl
  call-plain of.greatest code ks i h c = refl
  call-plain of.least code ks i h c = refl
  call-plain of.local_name code ks i h c = refl
  call-plain of.name code ks i h c = refl
  call-plain of.namespace code ks i h c = refl
  call-plain of.number code ks i h c = refl
  call-plain of.string code ks i h c = refl
  call-plain of.current code ks i h c = no i
  call-plain of.event code ks i h c = no i
  call-plain of.index code ks i h c = no h
  call-plain of.instance code ks i h c = no i
  call-plain of.last code ks i h c = refl
  call-plain of.position code ks i h c = refl
