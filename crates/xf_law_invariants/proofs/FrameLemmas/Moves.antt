-- What the changes of trees keep, an insert, a delete and a replacement keep: each change is told what it may rely on.
use Rattle.std.proofs.Common.{◌≡◌, ℕ, zero, suc, ◌+◌, ◌==◌, true, false, ◌&&◌, List, [], ◌∷◌, map, length, zip, get_or, nat_lt, Option, Some, None, option_map, Result, Ok, Err, refl, sym, ap, ◌∙◌, subst, inl, inr, arith}
use Rattle.std.specs.Prelude.{◌≤◌, ◌<◌, ◌⊎◌}
use Rattle.std.specs.List.{list_all}
use Rattle.std.proofs.lemmas.Bool.{eqb-true}
use Rattle.std.proofs.lemmas.Bool.Decides.{nat_tests}
use Rattle.xf_def_forest.specs.declared.content.Content.{Content}
use Rattle.xf_def_forest.specs.declared.content.Kind.TheVariants as kind
use Rattle.xf_def_forest.specs.declared.fault.TreeFault.{TreeFault}
use Rattle.xf_def_forest.specs.declared.content.Node.{Node}
use Rattle.xf_def_forest.specs.Changes.{attached, copied, place_in, standing, with_place}
use Rattle.xf_def_forest.specs.Forest.{Forest, has_number, is_element, is_root, kind_at}
use Rattle.xf_def_forest.specs.Plant.{numbered_from}
use Rattle.xf_def_forest.specs.Planted.{with_tree}
use Rattle.xf_def_forest.proofs.BackLaws.{and-true}
use Rattle.xf_def_forest.specs.Visit.{parent_of, visits}
use Rattle.xf_def_forest.specs.WellFormed.{HasTrees}
use Rattle.xf_law_forests.specs.Root.Roots.{IsNoRoot}
use Rattle.xf_def_model.specs.Pertinent.{AllOf}
use Rattle.xf_def_model.specs.Places.{Place, planned_insert}
use Rattle.xf_def_model.specs.Taken.{planned_delete}
use Rattle.xf_law_invariants.proofs.PlannedLemmas.Ready.{IsReady, IsCopied, kinds-no-root, ready-joins, cut-ready, cut-all-may, cut-all-ready, come-all-may, come-all-ready, copied-is, copied-nodes, parent-behind}
use Rattle.xf_law_invariants.proofs.PlannedLemmas.Planned.{ArePlanned, planned, IsRow, rows, instead_of, nowhere, instead-root, at-kind, parent-kind, root-test}
use Rattle.xf_law_invariants.proofs.PlannedLemmas.Parents.{inner-below, planned-cut}
use Rattle.xf_law_invariants.proofs.PlannedLemmas.Planted.{IsElementFirst, IsPlanted, planted-is}
use Rattle.xf_law_invariants.proofs.PlannedLemmas.RootForests.{standing-trees}
use Rattle.xf_law_forests.proofs.RollbackLemmas.TreeFacts.{is_at}
use Rattle.xf_law_invariants.proofs.PlannedLemmas.OutsideForests.{kind-there}
use Rattle.xf_def_machine.specs.Construct.{replace, replace_at}
use Rattle.xf_def_machine.specs.Flow.{in_turn}
use Rattle.xf_def_machine.specs.Insert.{copies_of, put_copy, without_one}
use Rattle.xf_def_machine.specs.Primitives.{attach, copy, detach, grown, grown_by, grown_to, list_changed, over_made, plant}
use Rattle.xf_def_machine.specs.Profile.{Profile}
use Rattle.xf_def_machine.specs.Refusal.{Refused, unless_passed}
use Rattle.xf_def_machine.specs.declared.limit.LimitWord.{LimitWord}
use Rattle.xf_def_machine.specs.State.{State}
use Rattle.xf_law_invariants.proofs.WholeLemmas.Fitting.{held-some-is}
use Rattle.xf_law_machine.proofs.RestLemmas.Holds.{Held, held-both, held-is, held-more, held-then}
use Rattle.xf_law_invariants.specs.Frame.Base.{IsBase, IsNewElement, is_one_element}
use Rattle.xf_law_invariants.specs.Frame.Moves.{IsPassed, KeepsMoves, InsertsKeep, DeletesKeep, ReplacesKeep, MoveLaws}
use Rattle.xf_law_invariants.proofs.FrameLemmas.BaseKept.{base-attach, base-copy, base-detach, base-instead, base-plant}
use Rattle.xf_law_invariants.specs.Planned.Ready.{MayCut, MayJoin, MayReplace}

-- ---- what a change leaves of the data

grown-to-is : (p : Profile) (count : ℕ) (r : Result Forest TreeFault) (s : State) → Held (λ t. r ≡ Ok t.forest) (grown_to (grown p count r s))
grown-to-is p count (Err fault) s = tt
grown-to-is p count (Ok forest) s = by (over_made p (s.made + count))
  where
    by : (words : List LimitWord) → Held (λ (t : State). ◌≡◌ {A = Result Forest TreeFault} (Ok forest) (Ok t.forest)) (grown_to (unless_passed s words (forest, record s { made = s.made + count })))
    by [] = refl
    by (word ∷ words) = tt

grown-by-is : (p : Profile) (count : ℕ) (r : Result (ℕ × Forest) TreeFault) (s : State) → Held (λ q. r ≡ Ok (q.0, q.1.forest)) (grown_by (grown p count r s))
grown-by-is p count (Err fault) s = tt
grown-by-is p count (Ok (top, forest)) s = by (over_made p (s.made + count))
  where
    by : (words : List LimitWord) → Held (λ (q : ℕ × State). ◌≡◌ {A = Result (ℕ × Forest) TreeFault} (Ok (top, forest)) (Ok (q.0, q.1.forest))) (grown_by (unless_passed s words ((top, forest), record s { made = s.made + count })))
    by [] = refl
    by (word ∷ words) = tt

pub attach-is : (p : Profile) (n parent place : ℕ) (s : State) → Held (λ t. attached p.bounds.limits n parent place s.forest ≡ Ok t.forest) (attach p n parent place s)
attach-is p n parent place s = grown-to-is p 0 (attached p.bounds.limits n parent place s.forest) (list_changed (Some parent) s)

pub copy-is : (p : Profile) (n : ℕ) (s : State) → Held (λ q. copied p.bounds.limits n s.forest ≡ Ok (q.0, q.1.forest)) (copy p n s)
copy-is p n s = grown-by-is p _ (copied p.bounds.limits n s.forest) s

module _ (p : Profile) (first : ℕ) (Q : State → Type 0) (k : KeepsMoves p first Q) where
  abbrev pub P : State → Type 0
  P s = IsBase p first s × Q s

  told : {X : Type 0} (B R : X → Type 0) (r : Result X Refused) → Held B r → Held (λ x. B x → R x) r → Held (λ x. B x × R x) r
  told B R (Err refusal) b q = tt
  told B R (Ok x) b q = (b, q b)

  pub keeps-copy : (n : ℕ) (s : State) → IsNoRoot n s.forest → P s → Held (λ q. P q.1) (copy p n s)
  keeps-copy n s is h = told (λ q. IsBase p first q.1) (λ q. Q q.1) (copy p n s) (base-copy p first n s is h.0) (k.copies n s is h.0 h.1)

  pub keeps-plant : (contents : List (ℕ × Content)) (s : State) → IsNewElement s.form contents → P s → Held (λ q. P q.1) (plant p contents s)
  keeps-plant contents s new h = told (λ q. IsBase p first q.1) (λ q. Q q.1) (plant p contents s) (base-plant p first contents s new h.0) (k.plants contents s new h.0 h.1)

  pub keeps-detach : (n : ℕ) (s : State) → MayCut n s.forest → P s → P (detach n s)
  keeps-detach n s may h = let b = base-detach p first n s may h.0 in (b, k.cuts n s may h.0 h.1 b)

  pub keeps-attach : (n parent place : ℕ) (s : State) → MayJoin n parent s.forest → P s → Held P (attach p n parent place s)
  keeps-attach n parent place s may h = told (IsBase p first) Q (attach p n parent place s) (base-attach p first n parent place s may h.0) (k.joins n parent place s may h.0 h.1)

  pub keeps-instead : (old top root place : ℕ) (s : State) → MayReplace old top root s.forest → P s → Held P (attach p top root place (detach old s))
  keeps-instead old top root place s may h =
      told (IsBase p first) Q (attach p top root place (detach old s)) (base-instead p first old top root place s may h.0) (k.instead old top root place s may h.0 h.1)

  -- ---- copies go to their places

  -- none of them is another
  abbrev Apart : ℕ → List (Place × ℕ) → Type 0
  Apart n ones = AllOf (λ one. (one.1 == n) ≡ false) ones

  abbrev AllApart : List (Place × ℕ) → Type 0
  AllApart [] = Unit {0}
  AllApart (one ∷ ones) = Apart one.1 ones × AllApart ones

  -- in a state: all copies, and those that wait with their places
  record Waits (parent : ℕ) (tops : List ℕ) (ones : List (Place × ℕ)) (s : State) : Type 0 where
    keeps : P s
    cut : AllOf (λ m. MayCut m s.forest) tops
    ready : AllOf (IsReady parent s.forest) ones

  gone-waits : (parent : ℕ) (tops : List ℕ) (ones : List (Place × ℕ)) (n : ℕ) (s : State) → MayCut n s.forest → Waits parent tops ones s → Waits parent tops ones (detach n s)
  gone-waits parent tops ones n s may w =
      let trees = w.keeps.0.trees in
      record {
        keeps = keeps-detach n s may w.keeps;
        cut = cut-all-may n s.forest trees may.kind tops w.cut;
        ready = cut-all-ready n s.forest trees may.kind parent ones w.ready;
      }

  one-waits : (parent : ℕ) (tops : List ℕ) (ones : List (Place × ℕ)) (o : Option ℕ) (s : State) → ((n : ℕ) → o ≡ Some n → MayCut n s.forest) → Waits parent tops ones s → Waits parent tops ones (without_one o s)
  one-waits parent tops ones None s may w = w
  one-waits parent tops ones (Some n) s may w = gone-waits parent tops ones n s (may n refl) w

  come-waits : (parent : ℕ) (tops : List ℕ) (one : Place × ℕ) (ones : List (Place × ℕ)) (s : State) → Apart one.1 ones → Waits parent tops (one ∷ ones) s
      → Held (Waits parent tops ones) (attach p one.1 parent one.0.place s)
  come-waits parent tops one ones s apart w =
      let j = ready-joins parent s.forest one w.ready.0 in
      let trees = w.keeps.0.trees in
      held-more (λ t. P t × (attached p.bounds.limits one.1 parent one.0.place s.forest ≡ Ok t.forest)) (Waits parent tops ones) (attach p one.1 parent one.0.place s)
      (λ t i. record {
        keeps = i.0;
        cut = come-all-may p.bounds.limits one.1 parent one.0.place s.forest t.forest trees j i.1 tops w.cut;
        ready = come-all-ready p.bounds.limits one.1 parent one.0.place s.forest t.forest trees j i.1 ones apart w.ready.1;
      })
      (held-both P (λ t. attached p.bounds.limits one.1 parent one.0.place s.forest ≡ Ok t.forest) (attach p one.1 parent one.0.place s) (keeps-attach one.1 parent one.0.place s j w.keeps) (attach-is p one.1 parent one.0.place s))

  -- one of the copies
  chosen : (R : ℕ → Type 0) (tops : List ℕ) (j : ℕ) → j < length tops → AllOf R tops → R (get_or tops j 0)
  chosen R [] j less a = let no : ⊥ = omega (arith, less) in absurd no
  chosen R (m ∷ ms) zero less a = a.0
  chosen R (m ∷ ms) (suc j) less a = chosen R ms j (omega (arith, less)) a.1

  abbrev AgainIn : List ℕ → List (Place × ℕ) → Type 0
  AgainIn tops ones = AllOf (λ one. (j : ℕ) → one.0.again ≡ Some j → j < length tops) ones

  put-waits : (parent : ℕ) (tops : List ℕ) (one : Place × ℕ) (ones : List (Place × ℕ)) (s : State) → ((j : ℕ) → one.0.again ≡ Some j → j < length tops) → Apart one.1 ones
      → Waits parent tops (one ∷ ones) s → Held (Waits parent tops ones) (put_copy p tops one s)
  put-waits parent tops (place, top) ones s again apart w =
      let u = without_one place.replaces s in
      let wu = one-waits parent tops ((place, top) ∷ ones) place.replaces s (λ n e. w.ready.0.gone n e) w in
      let v = without_one (option_map (λ j. get_or tops j 0) place.again) u in
      let wv = one-waits parent tops ((place, top) ∷ ones) (option_map (λ j. get_or tops j 0) place.again) u (λ n e. again-cut place.again again u wu.cut n e) wu in
      subst (λ q. Held (Waits parent tops ones) (attach p top q place.place v)) (sym w.ready.0.parent_is) (come-waits parent tops (place, top) ones v apart wv)
    where
      again-cut : (o : Option ℕ) → ((j : ℕ) → o ≡ Some j → j < length tops) → (u : State) → AllOf (λ m. MayCut m u.forest) tops → (n : ℕ) → option_map (λ j. get_or tops j 0) o ≡ Some n → MayCut n u.forest
      again-cut None less u cut n e = cc e
      again-cut (Some j) less u cut n e = let same : get_or tops j 0 ≡ n = cc e in subst (λ m. MayCut m u.forest) same (chosen (λ m. MayCut m u.forest) tops j (less j refl) cut)

  all-put : (parent : ℕ) (tops : List ℕ) (ones : List (Place × ℕ)) (s : State) → AgainIn tops ones → AllApart ones → Waits parent tops ones s → Held P (in_turn (put_copy p tops) ones s)
  all-put parent tops [] s again apart w = w.keeps
  all-put parent tops (one ∷ ones) s again apart w =
      held-then (Waits parent tops ones) P (put_copy p tops one s) (in_turn (put_copy p tops) ones) (put-waits parent tops one ones s again.0 apart.0 w) (λ t v. all-put parent tops ones t again.1 apart.1 v)

  -- ---- the copies are made

  -- a place below an element, with what is copied for it
  record IsAsked (parent : ℕ) (forest : Forest) (pl : Place) : Type 0 where
    parent_is : pl.parent ≡ parent
    origin : IsNoRoot pl.origin forest
    gone : (m : ℕ) → pl.replaces ≡ Some m → MayCut m forest

  record AreMade (parent count next : ℕ) (ps : List Place) (done : List (Place × ℕ)) (made : List ℕ × State) : Type 0 where
    keeps : P made.1
    done_too : AllOf (IsReady parent made.1.forest) done
    ready : AllOf (IsReady parent made.1.forest) (zip ps made.0)
    apart : AllApart (zip ps made.0)
    new : AllOf (λ m. next ≤ m) made.0
    cut : AllOf (λ m. MayCut m made.1.forest) made.0
    many : length made.0 ≡ length ps

  later-apart : (n next : ℕ) (ps : List Place) (ms : List ℕ) → n < next → AllOf (λ m. next ≤ m) ms → Apart n (zip ps ms)
  later-apart n next [] ms less a = tt
  later-apart n next (pl ∷ ps) [] less a = tt
  later-apart n next (pl ∷ ps) (m ∷ ms) less a = (let z = a.0 in grind (arith, nat_tests, less, z), later-apart n next ps ms less a.1)

  all-later : (a b : ℕ) (ms : List ℕ) → a ≤ b → AllOf (λ m. b ≤ m) ms → AllOf (λ m. a ≤ m) ms
  all-later a b [] less h = tt
  all-later a b (m ∷ ms) less h = (let z = h.0 in omega (arith, less, z), all-later a b ms less h.1)

  all-asked : (parent : ℕ) (n c : ℕ) (forest after : Forest) → IsCopied n c forest after → (ps : List Place) → AllOf (IsAsked parent forest) ps → AllOf (IsAsked parent after) ps
  all-asked parent n c forest after i [] a = tt
  all-asked parent n c forest after i (pl ∷ ps) a =
      (record { parent_is = a.0.parent_is; origin = kinds-no-root pl.origin forest after i.kinds a.0.origin; gone = λ m e. i.grown m (a.0.gone m e) }, all-asked parent n c forest after i ps a.1)

  all-ready : (parent : ℕ) (n c : ℕ) (forest after : Forest) → IsCopied n c forest after → (ones : List (Place × ℕ)) → AllOf (IsReady parent forest) ones → AllOf (IsReady parent after) ones
  all-ready parent n c forest after i [] a = tt
  all-ready parent n c forest after i (one ∷ ones) a = (i.ready parent one a.0, all-ready parent n c forest after i ones a.1)

  -- the copy that was made for a place
  new-ready : (parent c : ℕ) (pl : Place) (forest after : Forest) → IsCopied pl.origin c forest after → IsAsked parent forest pl → kind_at parent forest.nodes ≡ Some kind.Element → has_number parent forest.nodes ≡ true
      → IsReady parent after (pl, c)
  new-ready parent c pl forest after i a above there = record {
    parent_is = a.parent_is;
    top = i.top;
    outside = i.out parent there;
    own = record { kind = own a.origin; inner = i.inner };
    above = i.kinds parent kind.Element above;
    gone = λ m e. i.grown m (a.gone m e);
  }
    where
      own : IsNoRoot pl.origin forest → IsNoRoot c after
      own (inl e) = inl (i.kind ∙ e)
      own (inr e) = inr (i.kind ∙ e)

  copies-made : (parent : ℕ) (ps : List Place) (done : List (Place × ℕ)) (s : State) → P s → kind_at parent s.forest.nodes ≡ Some kind.Element → AllOf (IsAsked parent s.forest) ps → AllOf (IsReady parent s.forest) done
      → Held (AreMade parent (length ps) s.forest.next ps done) (copies_of p (map (λ q. q.origin) ps) s)
  copies-made parent [] done s h above a d = record { keeps = h; done_too = d; ready = tt; apart = tt; new = tt; cut = tt; many = refl }
  copies-made parent (pl ∷ ps) done s h above a d =
      held-then (λ one. P one.1 × IsCopied pl.origin one.0 s.forest one.1.forest) (AreMade parent (length (pl ∷ ps)) s.forest.next (pl ∷ ps) done) (copy p pl.origin s) _
      (held-more (λ one. P one.1 × (copied p.bounds.limits pl.origin s.forest ≡ Ok (one.0, one.1.forest))) (λ one. P one.1 × IsCopied pl.origin one.0 s.forest one.1.forest) (copy p pl.origin s)
      (λ one i. (i.0, copied-is p.bounds.limits pl.origin one.0 s.forest one.1.forest h.0.trees a.0.origin i.1))
      (held-both (λ one. P one.1) (λ one. copied p.bounds.limits pl.origin s.forest ≡ Ok (one.0, one.1.forest)) (copy p pl.origin s) (keeps-copy pl.origin s a.0.origin h) (copy-is p pl.origin s)))
      (λ one i. let c = i.1 in
      let own = new-ready parent one.0 pl s.forest one.1.forest c a.0 above (kind-there parent kind.Element s.forest.nodes above) in
      held-then (AreMade parent (length ps) one.1.forest.next ps ((pl, one.0) ∷ done)) (AreMade parent (length (pl ∷ ps)) s.forest.next (pl ∷ ps) done) (copies_of p (map (λ q. q.origin) ps) one.1) _
      (copies-made parent ps ((pl, one.0) ∷ done) one.1 i.0 (c.kinds parent kind.Element above) (all-asked parent pl.origin one.0 s.forest one.1.forest c ps a.1)
      (own, all-ready parent pl.origin one.0 s.forest one.1.forest c done d))
      (λ more m. let number = c.number in let less = c.later in record {
        keeps = m.keeps;
        done_too = m.done_too.1;
        ready = (m.done_too.0, m.ready);
        apart = (later-apart one.0 one.1.forest.next ps more.0 (omega (arith, number, less)) m.new, m.apart);
        new = ((omega (arith, number)), all-later s.forest.next one.1.forest.next more.0 (omega (arith, less)) m.new);
        cut = (m.done_too.0.own, m.cut);
        many = ap suc m.many;
      }))

  -- ---- an insert

  asked-rows : (forest : Forest) (trees : HasTrees forest) (parent count : ℕ) (ps : List Place) → AllOf (IsRow forest trees parent count) ps → AllOf (IsAsked parent forest) ps
  asked-rows forest trees parent count [] r = tt
  asked-rows forest trees parent count (pl ∷ ps) r = (record { parent_is = r.0.parent_is; origin = r.0.origin; gone = r.0.gone }, asked-rows forest trees parent count ps r.1)

  again-rows : (forest : Forest) (trees : HasTrees forest) (parent count : ℕ) (tops : List ℕ) (ps : List Place) (ms : List ℕ) → length tops ≡ count → AllOf (IsRow forest trees parent count) ps → AgainIn tops (zip ps ms)
  again-rows forest trees parent count tops [] ms e r = tt
  again-rows forest trees parent count tops (pl ∷ ps) [] e r = tt
  again-rows forest trees parent count tops (pl ∷ ps) (m ∷ ms) e r = ((λ j q. subst (λ i. j < i) (sym e) (r.0.again j q)), again-rows forest trees parent count tops ps ms e r.1)

  abbrev Goes : List Place → List ℕ × State → Type 0
  Goes ps made = Held P (in_turn (put_copy p made.0) (zip ps made.0) made.1)

  pub inserted-keeps : (ps : List Place) (s : State) (h : P s) → ArePlanned s.forest h.0.trees ps → Held (Goes ps) (copies_of p (map (λ q. q.origin) ps) s)
  inserted-keeps ps s h nowhere = h
  inserted-keeps ps s h (rows parent list above r) =
      held-more (AreMade parent (length list) s.forest.next list []) (Goes list) (copies_of p (map (λ q. q.origin) list) s)
      (λ made m. all-put parent made.0 (zip list made.0) made.1 (again-rows s.forest h.0.trees parent (length list) made.0 list made.0 m.many r) m.apart (record { keeps = m.keeps; cut = m.cut; ready = m.ready }))
      (copies-made parent list [] s h above (asked-rows s.forest h.0.trees parent (length list) list r) tt)
  inserted-keeps ps s h (instead_of pl i) =
      held-then (λ one. P one.1 × (copied p.bounds.limits pl.origin s.forest ≡ Ok (one.0, one.1.forest))) (Goes (pl ∷ [])) (copy p pl.origin s) _
      (held-both (λ one. P one.1) (λ one. copied p.bounds.limits pl.origin s.forest ≡ Ok (one.0, one.1.forest)) (copy p pl.origin s) (keeps-copy pl.origin s (inl i.origin) h) (copy-is p pl.origin s))
      (λ one j. let c = copied-is p.bounds.limits pl.origin one.0 s.forest one.1.forest h.0.trees (inl i.origin) j.1 in
      let root = instead-root s.forest h.0.trees pl i in
      let may : MayReplace i.old one.0 pl.parent one.1.forest = record {
        old_kind = c.kinds i.old kind.Element i.is_element;
        below = subst (λ l. parent_of i.old (visits l) ≡ Some pl.parent) (sym (copied-nodes p.bounds.limits pl.origin one.0 s.forest one.1.forest h.0.trees (inl i.origin) j.1))
            (parent-behind i.old pl.parent s.forest.nodes _ (kind-there i.old kind.Element s.forest.nodes i.is_element) i.below);
        above = c.kinds pl.parent kind.Root root;
        detached_top = c.top;
        kind = c.kind ∙ i.origin;
        outside = c.out pl.parent (kind-there pl.parent kind.Root s.forest.nodes root);
      } in
      held-then P P (put_copy p (one.0 ∷ []) (pl, one.0) one.1) (in_turn (put_copy p (one.0 ∷ [])) [])
      (subst (λ o. Held P (attach p one.0 pl.parent pl.place (without_one (option_map (λ k. get_or (one.0 ∷ []) k 0) o) (without_one pl.replaces one.1)))) (sym i.again)
      (subst (λ o. Held P (attach p one.0 pl.parent pl.place (without_one o one.1))) (sym i.replaces)
      (keeps-instead i.old one.0 pl.parent pl.place one.1 may j.0)))
      (λ t k. k))

  -- ---- a delete

  abbrev Cuts : List ℕ → State → Type 0
  Cuts ns s = P s × AllOf (λ m. MayCut m s.forest) ns

  pub deleted-keeps : (ns : List ℕ) (s : State) → Cuts ns s → Held P (in_turn (λ m u. Ok (detach m u)) ns s)
  deleted-keeps [] s h = h.0
  deleted-keeps (n ∷ ns) s h =
      deleted-keeps ns (detach n s) (keeps-detach n s h.1.0 h.0, cut-all-may n s.forest h.0.0.trees h.1.0.kind ns h.1.1)

  -- ---- an element in place of another

  plant-is : (contents : List (ℕ × Content)) (s : State) → Held (λ q. with_tree p.bounds.limits contents s.forest ≡ Ok (q.0, q.1.forest)) (plant p contents s)
  plant-is contents s = grown-by-is p (length contents) (with_tree p.bounds.limits contents s.forest) s

  element-first : (contents : List (ℕ × Content)) → is_one_element contents ≡ true → IsElementFirst contents
  element-first [] e = cc e
  element-first ((d, c) ∷ cs) e =
      let first_two = (and-true ((d == 0) && is_element c) (list_all (λ (x : ℕ × Content). nat_lt 0 x.0) cs) e).0 in
      let parts = and-true (d == 0) (is_element c) first_two in
      let flat : d ≡ 0 = eqb-true d 0 parts.0 in
      record { name = c; rest = cs; is = ap (λ (i : ℕ). (i, c) ∷ cs) flat; element = parts.1 }

  standing-parent : (n parent place : ℕ) (nodes : List Node) → standing n nodes ≡ Some (parent, place) → parent_of n (visits nodes) ≡ Some parent
  standing-parent n parent place nodes e = by (parent_of n (visits nodes)) e
    where
      by : (o : Option ℕ) → with_place (visits nodes) n o ≡ Some (parent, place) → o ≡ Some parent
      by None i = cc i
      by (Some q) i = let same : ◌≡◌ {A = ℕ × ℕ} (q, place_in (visits nodes) n q) (parent, place) = cc i in ap (λ (x : ℕ × ℕ). Some x.0) same

  pub replaced-keeps : (n : ℕ) (contents : List (ℕ × Content)) (s : State) → kind_at n s.forest.nodes ≡ Some kind.Element → IsNewElement s.form contents → P s → Held P (replace p n contents s)
  replaced-keeps n contents s is new h = held-some-is P (standing n s.forest.nodes) (replace_at p n contents) s h of
    where
      of : (at : ℕ × ℕ) → standing n s.forest.nodes ≡ Some at → Held P (replace_at p n contents at s)
      of (parent, place) e =
          held-then (λ one. P one.1 × (with_tree p.bounds.limits contents s.forest ≡ Ok (one.0, one.1.forest))) P (plant p contents s) _
          (held-both (λ one. P one.1) (λ one. with_tree p.bounds.limits contents s.forest ≡ Ok (one.0, one.1.forest)) (plant p contents s) (keeps-plant contents s new h) (plant-is contents s))
          (λ one i. let below = standing-parent n parent place s.forest.nodes e in
          go one i.0 (planted-is p.bounds.limits contents one.0 s.forest one.1.forest h.0.trees new.growth new.alone (element-first contents new.element) i.1) below (parent-kind s.forest h.0.trees n parent kind.Element is below))
        where
          go : (one : ℕ × State) → P one.1 → IsPlanted one.0 contents s.forest one.1.forest → parent_of n (visits s.forest.nodes) ≡ Some parent
              → (kind_at parent s.forest.nodes ≡ Some kind.Element) ⊎ (is_at is_root parent (standing-trees s.forest h.0.trees).trees ≡ true) → Held P (attach p one.0 parent place (detach n one.1))
          go one j planted below (inl above) =
              let cut = planted.grown n (inner-below s.forest h.0.trees n parent (inl is) below above) in
              let pl : Place = record { origin = n; parent = parent; place = place; replaces = None; again = None } in
              let ready : IsReady parent one.1.forest (pl, one.0) = record {
                parent_is = refl;
                top = planted.top;
                outside = planted.out parent (kind-there parent kind.Element s.forest.nodes above);
                own = record { kind = inl planted.kind; inner = planted.inner };
                above = planted.kinds parent kind.Element above;
                gone = λ m q. cc q;
              } in
              let u = detach n one.1 in
              keeps-attach one.0 parent place u (ready-joins parent u.forest (pl, one.0) (cut-ready n one.1.forest j.0.trees cut.kind parent (pl, one.0) ready)) (keeps-detach n one.1 cut j)
          go one j planted below (inr above) =
              let root = at-kind s.forest h.0.trees kind.Root is_root root-test parent above in
              keeps-instead n one.0 parent place one.1 (record {
                old_kind = planted.kinds n kind.Element is;
                below = subst (λ l. parent_of n (visits l) ≡ Some parent) (sym planted.nodes) (parent-behind n parent s.forest.nodes (numbered_from s.forest.next contents) (kind-there n kind.Element s.forest.nodes is) below);
                above = planted.kinds parent kind.Root root;
                detached_top = planted.top;
                kind = planted.kind;
                outside = planted.out parent (kind-there parent kind.Root s.forest.nodes root);
              }) j

-- ---- the laws

inserts-keep : InsertsKeep
inserts-keep p first test k asked s made e b q =
    held-is (Goes p first (IsPassed test) k (planned_insert s.forest.nodes asked)) (copies_of p (map (λ x. x.origin) (planned_insert s.forest.nodes asked)) s) made
    (inserted-keeps p first (IsPassed test) k (planned_insert s.forest.nodes asked) s (b, q) (planned s.forest b.trees asked)) e

deletes-keep : DeletesKeep
deletes-keep p first test k asked s are b q =
    deleted-keeps p first (IsPassed test) k (planned_delete s.forest.nodes asked) s ((b, q), planned-cut s.forest b.trees asked are)

replaces-keep : ReplacesKeep
replaces-keep p first test k n contents s is new b q = replaced-keeps p first (IsPassed test) k n contents s is new (b, q)

pub move_laws : MoveLaws
move_laws = record { inserts = inserts-keep; deletes = deletes-keep; replaces = replaces-keep }
