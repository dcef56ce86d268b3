-- What stands once all calculates were written: the entries have the truths of their values over it, and what limits it passes, the settled
-- texts pass.
use Rattle.std.proofs.Common.{◌≡◌, ℕ, ◌+◌, ◌^◌, ◌<◌, Bool, true, false, cond, not, ◌||◌, ◌&&◌, List, [], ◌∷◌, ◌++◌, map, length, Option, Some, None, nat_lt, refl, sym, ap, ◌∙◌, subst, inl, inr}
use Rattle.std.specs.Prelude.{◌⊎◌, filter, fold, is_none, count_by, sum_by}
use Rattle.std.specs.List.{list_any, list_all}
use Rattle.xf_def_syntax.specs.declared.form.Tables.{Tables}
use Rattle.xf_def_forest.specs.declared.content.Node.{Node}
use Rattle.xf_def_forest.specs.declared.content.Content.{Content}
use Rattle.xf_def_forest.specs.declared.fault.TreeFault.TheVariants as tree
use Rattle.xf_def_forest.specs.Forest.{Forest, is_root}
use Rattle.xf_def_forest.specs.Limits.{limits, node_count, all_size, passed_by_all, size_of}
use Rattle.xf_def_forest.specs.Visit.{Visit, still_above, visits, visits_from}
use Rattle.xf_funcs.specs.Called.{called}
use Rattle.xf_def_xpath.specs.declared.fault.EvalFault.{EvalFault}
use Rattle.xf_def_xpath.specs.declared.fault.EvalFault.TheVariants as eval
use Rattle.xf_def_xpath.specs.Given.{Given}
use Rattle.xf_def_xpath.proofs.VisitFacts.{no, none-some, some-same}
use Rattle.xf_def_model.specs.Rules.{Scope}
use Rattle.xf_def_model.specs.Applied.{Entry, is_calculate}
use Rattle.xf_def_model.specs.Entries.{is_computed, text_of, value_of}
use Rattle.xf_def_model.specs.Settled.{Passed, bounds, calculates, holding, if_passed, is_long, is_over, long, passed_over}
use Rattle.xf_def_model.specs.Settled as passed
use Rattle.xf_def_model.specs.Pertinent.{AllOf}
use Rattle.xf_def_model.proofs.EachLemmas.{each_then, each_both}
use Rattle.xf_law_recalculation.specs.Agree.Settles.{IsSolid}
use Rattle.xf_law_recalculation.specs.Agree.InTurn.{IsFitting, tells_long}
use Rattle.xf_law_recalculation.proofs.AgreeLemmas.FormEntries.{all-filter}
use Rattle.xf_law_recalculation.proofs.AgreeLemmas.FormSettable.{entries_solid}
use Rattle.xf_law_recalculation.proofs.AgreeLemmas.TurnLists.{none-any}
use Rattle.xf_law_forests.specs.Settle.Written.{written}
use Rattle.xf_law_forests.proofs.SettleLemmas.MeasureLaws.{all_done}
use Rattle.xf_law_machine.proofs.BehavioursLemmas.WrittenContents.{all-written}
use Rattle.xf_law_recalculation.proofs.WrittenLemmas.TurnLaws.{all-kept, same-text, turn_passed}
use Rattle.xf_eval.specs.Live.{AroundStands}
use Rattle.xf_binds.specs.Held.{held_by}
use Rattle.xf_binds.specs.Kept.{valued_in}
use Rattle.xf_binds.specs.declared.turns.Turn.{Turn}
use Rattle.xf_recalc.specs.declared.fault.SettleFault.{SettleFault}
use Rattle.xf_recalc.specs.Settles.{IsSettled, IsTold, MaySettle, contents_in, fault_of, scope_in, tells_all, tells_nodes, word_of, words_of}
use Rattle.xf_recalc.specs.Turns.{AreTurns, entry_in, found_over, is_there}
use Rattle.xf_recalc.specs.Whole.{IsWritten}
use Rattle.xf_recalc.proofs.HeldSteps.{none-long, outcome}
use Rattle.xf_recalc.proofs.ListLemmas.{any-left, any-right}
use Rattle.xf_recalc.proofs.Surroundings.{stands-now, there-now}
use Rattle.xf_recalc.proofs.Turning.{Fits, may-write, over_settled, turned-form}

-- a measure of contents is the same of visits as of nodes
visited : (measure : Content → ℕ) (above : List Node) (sum : ℕ) (xs : List Node)
    → fold (λ (a : ℕ) (x : Visit). a + measure x.content) sum (visits_from above xs) ≡ fold (λ (a : ℕ) (x : Node). a + measure x.content) sum xs
visited measure above sum [] = refl
visited measure above sum (x ∷ xs) = visited measure (x ∷ still_above x.depth above) (sum + measure x.content) xs

counted : (nodes : List Node) → count_by (λ (x : Visit). not (is_root x.content)) (visits nodes) ≡ node_count nodes
counted nodes = visited (λ c. cond (not (is_root c)) 1 0) [] 0 nodes

sized : (nodes : List Node) → sum_by (λ (x : Visit). size_of x.content) (visits nodes) ≡ all_size nodes
sized nodes = visited size_of [] 0 nodes

any-longs : (p : Entry → Bool) (es : List Entry) → list_any tells_long (map (λ (e : Entry). long e.node) (filter p es)) ≡ list_any p es
any-longs p [] = refl
any-longs p (e ∷ es) = by (p e) (any-longs p es)
  where
    by : (b : Bool) → list_any tells_long (map (λ (f : Entry). long f.node) (filter p es)) ≡ list_any p es → list_any tells_long (map (λ (f : Entry). long f.node) (cond b (e ∷ filter p es) (filter p es))) ≡ (b || list_any p es)
    by true h = refl
    by false h = h

filter-none : {X : Type 0} (p : X → Bool) (xs : List X) → AllOf (λ x. p x ≡ false) xs → filter p xs ≡ []
filter-none p [] h = refl
filter-none p (x ∷ xs) h = ap (λ b. cond b (x ∷ filter p xs) (filter p xs)) h.0 ∙ filter-none p xs h.1

-- of those that pass a test, each by itself
unfiltered : {X : Type 0} (P : X → Type 0) (p : X → Bool) (xs : List X) → AllOf P (filter p xs) → AllOf (λ x. p x ≡ true → P x) xs
unfiltered P p [] h = tt
unfiltered P p (x ∷ xs) h = by (p x) refl h (unfiltered P p xs)
  where
    by : (b : Bool) → p x ≡ b → AllOf P (cond b (x ∷ filter p xs) (filter p xs)) → (AllOf P (filter p xs) → AllOf (λ y. p y ≡ true → P y) xs) → AllOf (λ y. p y ≡ true → P y) (x ∷ xs)
    by true e i rest = (λ j. i.0, rest i.1)
    by false e i rest = (λ j. no (sym e ∙ j), rest i)

-- want of memory is free
pub long-told : {X : Type 0} (words : List Passed) (fault : EvalFault) (part : Option X) → (fault ≡ eval.Memory) ⊎ ((fault ≡ eval.Long) × (part ≡ None)) → (part ≡ None → list_any tells_long words ≡ true) → IsTold (fault_of fault) words
long-told words fault part (inl e) told = subst (λ f. IsTold (fault_of f) words) (sym e) tt
long-told words fault part (inr e) told = subst (λ f. IsTold (fault_of f) words) (sym e.0) (told e.1)

module _ (given : Given) (tables : Tables) (model : ℕ) (forest : Forest) (entries : List Entry) (may : MaySettle given tables model forest entries)
    (turns : List Turn) (t : AreTurns (scope_in given tables model) entries (visits forest.nodes) turns) (few : length (calculates entries) < 2 ^ 32)
    (after : Forest) (w : IsWritten (scope_in given tables model) entries forest after) where
  abbrev scope : Scope
  scope = scope_in given tables model

  abbrev all : List Visit
  all = visits after.nodes

  pub after-nodes : after.nodes ≡ written all_done forest.next (contents_in scope entries forest) forest.nodes
  after-nodes = ap (λ f. f.nodes) w.written ∙ sym (all-written forest.next (contents_in scope entries forest) forest.nodes)

  pub stands-after : AroundStands given after.nodes
  stands-after = subst (AroundStands given) (sym after-nodes) (stands-now given tables model forest entries may all_done (contents_in scope entries forest) (may-write given tables model forest entries may turns t few))

  pub there-after : list_all (is_there after.nodes) entries ≡ true
  there-after = ap (λ nodes. list_all (is_there nodes) entries) after-nodes ∙ there-now given tables model forest entries may all_done (contents_in scope entries forest) (may-write given tables model forest entries may turns t few)

  words-after : passed_over bounds scope entries all ≡ words_of scope entries forest
  words-after =
      ap (λ nodes. passed_over bounds scope entries (visits nodes)) after-nodes
      ∙ turn_passed bounds called given tables model forest entries (map entry_in turns) (turned-form given tables model forest entries may turns t few)

  -- ---- limits

  abbrev longs : List Passed
  longs = map (λ (e : Entry). long e.node) (filter (is_long bounds scope all) (filter is_computed entries))

  abbrev texts : List Passed
  texts = if_passed (list_any (λ e. is_over bounds.limits.text (text_of (Some bounds.string) scope all e)) (calculates entries)) passed.text

  abbrev counts : List Passed
  counts = if_passed (nat_lt bounds.limits.nodes (count_by (λ (x : Visit). not (is_root x.content)) all)) passed.nodes

  abbrev sizes : List Passed
  sizes = if_passed (nat_lt bounds.limits.all (sum_by (λ (x : Visit). size_of x.content) all)) passed.all_texts

  pub long-after : found_over [] scope all entries ≡ None → list_any tells_long (words_of scope entries forest) ≡ true
  long-after none =
      ap (list_any tells_long) (sym words-after)
      ∙ any-left tells_long ((longs ++ texts) ++ counts) sizes (any-left tells_long (longs ++ texts) counts (any-left tells_long longs texts
      (any-longs (is_long bounds scope all) (filter is_computed entries) ∙ none-long scope all [] entries none)))

  pub limit-told : (fault : SettleFault) → Some fault ≡ word_of (passed_by_all limits after.nodes) → IsTold fault (words_of scope entries forest)
  limit-told fault h = by (nat_lt limits.nodes (node_count after.nodes)) refl (nat_lt limits.all (all_size after.nodes)) refl h
    where
      by : (a : Bool) → nat_lt limits.nodes (node_count after.nodes) ≡ a → (b : Bool) → nat_lt limits.all (all_size after.nodes) ≡ b →
          Some fault ≡ word_of (cond a (Some tree.Nodes) (cond b (Some tree.AllText) None)) → IsTold fault (words_of scope entries forest)
      by true i b j k =
          subst (λ f. IsTold f (words_of scope entries forest)) (sym (some-same k))
          (ap (list_any tells_nodes) (sym words-after)
          ∙ any-left tells_nodes ((longs ++ texts) ++ counts) sizes (any-right tells_nodes (longs ++ texts) counts (ap (λ c. list_any tells_nodes (if_passed c passed.nodes)) (ap (nat_lt limits.nodes) (counted after.nodes) ∙ i))))
      by false i true j k =
          subst (λ f. IsTold f (words_of scope entries forest)) (sym (some-same k))
          (ap (list_any tells_all) (sym words-after)
          ∙ any-right tells_all ((longs ++ texts) ++ counts) sizes (ap (λ c. list_any tells_all (if_passed c passed.all_texts)) (ap (nat_lt limits.all) (sized after.nodes) ∙ j)))
      by false i false j k = none-some (sym k)

  none-passed : None ≡ word_of (passed_by_all limits after.nodes) → (nat_lt limits.nodes (node_count after.nodes) ≡ false) × (nat_lt limits.all (all_size after.nodes) ≡ false)
  none-passed h = by (nat_lt limits.nodes (node_count after.nodes)) (nat_lt limits.all (all_size after.nodes)) h
    where
      by : (a b : Bool) → None ≡ word_of (cond a (Some tree.Nodes) (cond b (Some tree.AllText) None)) → (a ≡ false) × (b ≡ false)
      by true b k = none-some k
      by false true k = none-some k
      by false false k = (refl, refl)

  -- ---- texts

  abbrev text : Entry → Option (List ℕ)
  text e = text_of (Some bounds.string) scope all e

  text-after : (e : Entry) → IsSolid (visits forest.nodes) e.node → text e ≡ text_of (Some bounds.string) scope (over_settled scope entries forest) e
  text-after e s =
      ap (λ nodes. text_of (Some bounds.string) scope (visits nodes) e) after-nodes
      ∙ sym (same-text bounds called given tables model forest entries (map entry_in turns) (turned-form given tables model forest entries may turns t few) all_done e s)
      ∙ ap (λ c. text_of (Some bounds.string) scope (holding (visits forest.nodes) c) e) (all-kept (contents_in scope entries forest))

  abbrev IsFine : Entry → Type 0
  IsFine e = is_calculate e ≡ true → IsFitting bounds.limits.text (text e)

  fine : AllOf IsFine entries
  fine = each_then (λ (e : Entry). IsSolid (visits forest.nodes) e.node × (is_calculate e ≡ true → Fits scope entries forest e)) IsFine
      (λ e h i. subst (IsFitting bounds.limits.text) (sym (text-after e h.0)) (h.1 i)) entries
      (each_both _ _ entries (entries_solid bounds called given tables model forest entries may.covered may.around may.applies) (unfiltered (Fits scope entries forest) is_calculate entries w.fitting))

  not-over : (o : Option (List ℕ)) → IsFitting bounds.limits.text o → is_over bounds.limits.text o ≡ false
  not-over None h = absurd h
  not-over (Some cs) h = h

  not-none : (o : Option (List ℕ)) → IsFitting bounds.limits.text o → is_none o ≡ false
  not-none None h = absurd h
  not-none (Some cs) h = refl

  no-texts : list_any (λ e. is_over bounds.limits.text (text e)) (calculates entries) ≡ false
  no-texts = none-any (λ e. is_over bounds.limits.text (text e)) (calculates entries)
      (each_then (λ (e : Entry). IsFine e × (is_calculate e ≡ true)) _ (λ e h. not-over (text e) (h.0 h.1)) (calculates entries) (all-filter IsFine is_calculate entries fine))

  not-long : (e : Entry) → is_none (value_of (Some bounds.string) scope all e) ≡ false → IsFine e → is_long bounds scope all e ≡ false
  not-long e some is = ap (λ b. b || (is_calculate e && is_none (text e))) some ∙ by (is_calculate e) refl
    where
      by : (c : Bool) → is_calculate e ≡ c → (c && is_none (text e)) ≡ false
      by true i = not-none (text e) (is i)
      by false i = refl

  no-longs : AllOf (λ e. is_computed e ≡ true → is_none (value_of (Some bounds.string) scope all e) ≡ false) entries → filter (is_long bounds scope all) (filter is_computed entries) ≡ []
  no-longs some = filter-none (is_long bounds scope all) (filter is_computed entries)
      (each_then (λ (e : Entry). ((is_computed e ≡ true → is_none (value_of (Some bounds.string) scope all e) ≡ false) × IsFine e) × (is_computed e ≡ true)) _ (λ e h. not-long e (h.0.0 h.1) h.0.1) (filter is_computed entries)
      (all-filter (λ (e : Entry). (is_computed e ≡ true → is_none (value_of (Some bounds.string) scope all e) ≡ false) × IsFine e) is_computed entries
      (each_both _ IsFine entries some fine)))

  abbrev told : List Passed → Bool → Bool → Bool → List Passed
  told ls a b c = ls ++ if_passed a passed.text ++ if_passed b passed.nodes ++ if_passed c passed.all_texts

  abbrev over_any : Bool
  over_any = list_any (λ e. is_over bounds.limits.text (text e)) (calculates entries)

  -- ---- the whole

  pub settled : (truths : List (Option Bool)) → found_over [] scope all entries ≡ Some truths → None ≡ word_of (passed_by_all limits after.nodes) → IsSettled scope entries forest after truths
  settled truths h fits =
      let o = outcome scope all [] entries truths h in
      let n = none-passed fits in
      record {
        written = w.written;
        values = ap (λ l. valued_in (held_by entries l)) o.is ∙ o.values;
        within =
            sym words-after
            ∙ ap (λ es. told (map (λ (e : Entry). long e.node) es) over_any (nat_lt bounds.limits.nodes (count_by (λ (x : Visit). not (is_root x.content)) all)) (nat_lt bounds.limits.all (sum_by (λ (x : Visit). size_of x.content) all))) (no-longs o.given)
            ∙ ap (λ b. told [] b (nat_lt bounds.limits.nodes (count_by (λ (x : Visit). not (is_root x.content)) all)) (nat_lt bounds.limits.all (sum_by (λ (x : Visit). size_of x.content) all))) no-texts
            ∙ ap (λ b. told [] false b (nat_lt bounds.limits.all (sum_by (λ (x : Visit). size_of x.content) all))) (ap (nat_lt limits.nodes) (counted after.nodes) ∙ n.0)
            ∙ ap (told [] false false) (ap (nat_lt limits.all) (sized after.nodes) ∙ n.1);
      }
