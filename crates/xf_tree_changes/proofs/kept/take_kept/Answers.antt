use Rattle.std.proofs.Common.{◌≡◌, ℕ, ◌+◌, ◌-◌, ◌<◌, ◌≤◌, ◌++◌, ◌∷◌, ◌||◌, length, take, drop, get_or, true, false, inl, inr, sym, ap, ◌∙◌, arith, length-set}
use Rattle.std.specs.Prelude.{filter, ◌⊎◌}
use Rattle.std.proofs.lemmas.List.{get_or_default, get_or-take, take-take, take-set-le, drop-set}
use Rattle.slab.specs.Slab.{get}
use Rattle.xf_def_forest.specs.Visit.{has}
use Rattle.xf_tree_contents.specs.Keys.{number_in}
use Rattle.xf_tree_changes.specs.Texts.{numbers_in, numbers_of, places_of, is_wanted, is_left, no_text, moved_text}
use Rattle.xf_tree_changes.proofs.KeptLemmas.{moved-all, moved-length, moved-drop, has-at, split-has, behind-none, wanted-step, left-step, seen-all}
use Rattle.xf_tree_changes.proofs.kept.take_kept.Goals.{After-cut_out, then-loop-at-test+else-left-gt0, else-loop-at-test}
use Rattle.xf_tree_changes.proofs.kept.take_kept.Goals as goal

pub loop-at-preserved-in-Some : goal.loop-at-preserved-in-Some
loop-at-preserved-in-Some c =
    let s = c.args.slots.now in
    let keys = c.args.kept.now.items in
    let ns = numbers_in c.args.texts.now.items in
    let texts = c.loop-at.texts.items in
    let now = c.loop-at.kept.items in
    let inv = c.loop-at.invariant in
    let at = c.loop-at.at in
    let i = at - 1 in
    let j = c.loop-at.left - 1 in
    let up : i + 1 ≡ at = omega (arith, c.loop-at-test.true) in
    let jup : j + 1 ≡ c.loop-at.left = omega (arith, c.if-left-gt0.true) in
    let inside : i < length keys = omega (arith, inv.order, inv.within, inv.same, up) in
    let small : i < at = omega (arith, up) in
    let same : get_or now i 0 ≡ get_or keys i 0 = sym (get_or-take at now i 0 small) ∙ ap (λ l. get_or l i 0) inv.front ∙ get_or-take at keys i 0 small in
    let key : c.index-key.result.now ≡ get_or keys i 0 = c.index-key.ensures ∙ get_or_default now i c.index-key.result.now 0 (omega (arith, inside, inv.same)) ∙ same in
    let p = c.in-Some.place in
    let key2 = c.index-key.result.now in
    let new = c.move_text.new.texts.items in
    let left = c.loop-at.left in
    let at_left : p < left = c.in-Some.ensures.within in
    let h : p ≤ j = omega (arith, at_left, jup) in
    let l : j < length texts = omega (arith, inv.left, jup) in
    let moved : new ≡ moved_text p j key2 texts = c.move_text.ensures in
    let m = (get_or texts p no_text).number in
    let found : m ≡ number_in (get s key2) = ap (λ l. (get_or l p no_text).number) (sym c.deref.ensures.value) ∙ c.in-Some.ensures.answer ∙ c.number_of.ensures in
    let in_ns : has (number_in (get s (get_or keys i 0))) ns ≡ true =
    ap (λ k. has k ns) (sym (found ∙ ap (λ k. number_in (get s k)) key)) ∙ inv.all m ∙ split-has m texts left
    ∙ ap (λ b. b || has m (numbers_in (drop left texts))) (has-at texts p left at_left (omega (arith, at_left, inv.left))) in
    let step = wanted-step s keys ns c.requires i inside in_ns in
    let e : drop j new ≡ record { number = m; place = key2 } ∷ drop left texts = ap (drop j) moved ∙ moved-drop texts p j key2 h l ∙ ap (λ k. record { number = m; place = key2 } ∷ drop k texts) jup in
    let least : i ≤ at = omega arith in
    record {
      left = omega (arith, ap length moved, moved-length texts p j key2, inv.left);
      order = omega (arith, inv.order);
      within = inv.within;
      same = inv.same;
      front = sym (take-take i at now least) ∙ ap (take i) inv.front ∙ take-take i at keys least;
      others = inv.others ∙ ap (λ k. filter (is_left s ns) (drop k keys)) (sym up) ∙ sym step.1;
      taken = ap places_of e ∙ ap (λ l. key2 ∷ l) inv.taken ∙ ap (λ k. k ∷ filter (is_wanted s ns) (drop at keys)) key ∙ ap (λ k. get_or keys i 0 ∷ filter (is_wanted s ns) (drop k keys)) (sym up) ∙ sym step.0;
      known = ap numbers_in e ∙ ap (λ k. k ∷ numbers_in (drop left texts)) found ∙ ap (λ l. number_in (get s key2) ∷ l) inv.known ∙ sym (ap (λ l. numbers_of s (places_of l)) e);
      all = λ n. inv.all n ∙ sym (ap (λ l. has n (numbers_in l)) moved ∙ moved-all n texts p j key2 h l);
    }

pub loop-at-preserved : goal.loop-at-preserved
loop-at-preserved c =
    let s = c.args.slots.now in
    let keys = c.args.kept.now.items in
    let ns = numbers_in c.args.texts.now.items in
    let texts = c.loop-at.texts.items in
    let now = c.loop-at.kept.items in
    let inv = c.loop-at.invariant in
    let at = c.loop-at.at in
    let i = at - 1 in
    let up : i + 1 ≡ at = omega (arith, c.loop-at-test.true) in
    let inside : i < length keys = omega (arith, inv.order, inv.within, inv.same, up) in
    let small : i < at = omega (arith, up) in
    let same : get_or now i 0 ≡ get_or keys i 0 = sym (get_or-take at now i 0 small) ∙ ap (λ l. get_or l i 0) inv.front ∙ get_or-take at keys i 0 small in
    let key : c.index-key.result.now ≡ get_or keys i 0 = c.index-key.ensures ∙ get_or_default now i c.index-key.result.now 0 (omega (arith, inside, inv.same)) ∙ same in
    let left = c.loop-at.left in
    let to = c.loop-at.to in
    let key2 = c.index-key.result.now in
    let m = number_in (get s (get_or keys i 0)) in
    let number : c.number_of.result ≡ m = c.number_of.ensures ∙ ap (λ k. number_in (get s k)) key in
    let front : has m (numbers_in (take left texts)) ≡ false =
    ap (λ k. has k (numbers_in (take left texts))) (sym number) ∙ ap (λ l. has c.number_of.result (numbers_in (take left l))) (sym c.deref.ensures.value) ∙ c.in-None.ensures.answer in
    let rest : has m (numbers_in (drop left texts)) ≡ false =
    ap (has m) inv.known ∙ ap (λ l. has m (numbers_of s l)) inv.taken ∙ ap (λ k. has m (numbers_of s (filter (is_wanted s ns) (drop k keys)))) (sym up) ∙ behind-none s keys ns c.requires i inside in
    let absent : has m ns ≡ false = inv.all m ∙ split-has m texts left ∙ ap (λ b. b || has m (numbers_in (drop left texts))) front ∙ rest in
    let step = left-step s keys ns c.requires i inside absent in
    let low : i ≤ to - 1 = omega (arith, inv.order, up) in
    let in_now : to - 1 < length now = omega (arith, inv.order, inv.within, up) in
    let back : to - 1 + 1 ≡ to = omega (arith, inv.order, up) in
    let least : i ≤ at = omega arith in
    record {
      left = inv.left;
      order = low;
      within = omega (arith, length-set now (to - 1) key2, inv.within);
      same = length-set now (to - 1) key2 ∙ inv.same;
      front = take-set-le i now (to - 1) key2 low ∙ sym (take-take i at now least) ∙ ap (take i) inv.front ∙ take-take i at keys least;
      others = drop-set now (to - 1) key2 in_now ∙ ap (λ k. key2 ∷ drop k now) back ∙ ap (λ l. key2 ∷ l) inv.others ∙ ap (λ k. k ∷ filter (is_left s ns) (drop at keys)) key
          ∙ ap (λ k. get_or keys i 0 ∷ filter (is_left s ns) (drop k keys)) (sym up) ∙ sym step.1;
      taken = inv.taken ∙ ap (λ k. filter (is_wanted s ns) (drop k keys)) (sym up) ∙ sym step.0;
      known = inv.known;
      all = inv.all;
    }

-- the loop ends where all keys are seen or all texts found
ended : (c : After-cut_out) → (c.loop-at.at ≡ 0) ⊎ ((n : ℕ) → has n (numbers_in c.args.texts.now.items)
    ≡ has n (numbers_of c.args.slots.now (filter (is_wanted c.args.slots.now (numbers_in c.args.texts.now.items)) (drop c.loop-at.at c.args.kept.now.items))))
ended c =
    let s = c.args.slots.now in
    let texts = c.loop-at.texts.items in
    let inv = c.loop-at.invariant in
    elim c.loop-at-test.branch [
      | then-loop-at-test+else-left-gt0 w ↦ inr (λ n.
          let none : c.loop-at.left ≡ 0 = omega (arith, w.if-left-gt0.false) in
          inv.all n ∙ ap (λ k. has n (numbers_in (drop k texts))) (sym none) ∙ ap (has n) inv.known ∙ ap (λ l. has n (numbers_of s l)) inv.taken)
      | else-loop-at-test w ↦ inl (omega (arith, w.loop-at-test.false))
    ]

pub returns-clause-taken : goal.returns-clause-taken
returns-clause-taken c =
    c.loop-at.invariant.taken
    ∙ sym (seen-all c.args.slots.now c.args.kept.now.items (numbers_in c.args.texts.now.items) c.requires c.loop-at.at (ended (goal.at.returns-clause-taken c).After-cut_out)).0

pub returns-clause-left : goal.returns-clause-left
returns-clause-left c =
    let inv = c.loop-at.invariant in
    c.cut_out.ensures ∙ ap (λ l. l ++ drop c.loop-at.to c.loop-at.kept.items) inv.front ∙ ap (λ l. take c.loop-at.at c.args.kept.now.items ++ l) inv.others
    ∙ sym (seen-all c.args.slots.now c.args.kept.now.items (numbers_in c.args.texts.now.items) c.requires c.loop-at.at (ended (goal.at.returns-clause-left c).After-cut_out)).1
