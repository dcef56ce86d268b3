-- A draft after each change: what is kept stays the forest that was kept.
use Rattle.std.proofs.Common.{◌≡◌, ℕ, ◌+◌, ◌==◌, Bool, true, false, cond, ◌&&◌, ◌||◌, List, [], ◌∷◌, ◌++◌, length, Option, Some, None, Ok, refl, sym, ap, ◌∙◌, subst, arith}
use Rattle.std.specs.Prelude.{if◌then◌else◌}
use Rattle.std.specs.List.{list_any}
use Rattle.std.proofs.lemmas.Bool.Decides.{nat_tests}
use Rattle.xf_def_forest.specs.declared.content.Node.{Node}
use Rattle.xf_def_forest.specs.declared.fault.TreeFault.{TreeFault}
use Rattle.xf_def_forest.specs.Forest.{Forest, has_number, tree_of}
use Rattle.xf_def_forest.specs.Visit.{has, numbers}
use Rattle.xf_def_forest.specs.Limits.{Limits, limits, passed_by_text, unless}
use Rattle.xf_def_forest.specs.Texts.{Keeping, KeptText, Before, attribute_text, element_texts, is_attribute_at, texts_in, value_in, kept_from, before_of, taken_from, new_texts, with_text as forest_with_text, given_up, text_set}
use Rattle.xf_def_forest.specs.Settle.{reserved, IsFree, with_numbered_text, numbered_text_set}
use Rattle.xf_def_forest.specs.Needs.{IsSettable, MayGiveUp, are_kept}
use Rattle.xf_def_forest.specs.Undo.{Entry, Ledger, kept_at, of_text, with_note, with_set, is_known, text_filled, rolled_back}
use Rattle.xf_def_forest.specs.Undo as undo
use Rattle.xf_def_forest.specs.WellFormed.{AreTrees}
use Rattle.xf_def_forest.proofs.SettleLaws.{numbered-is}
use Rattle.xf_def_forest.proofs.FreeLaws.{or-parts, is_numbered, numbered-none, taken-none, both-kept, left-kept, fresh-nodes, fresh-kept}
use Rattle.xf_law_forests.specs.Rollback.Made.{Made, texts, with_new_text}
use Rattle.xf_law_forests.proofs.RollbackLemmas.Laws.{rolls_back}
use Rattle.xf_law_forests.proofs.RollbackLemmas.Outcomes.{unless-ok, set-forest}
use Rattle.xf_undo.specs.Draft.{Draft, alone, kept_as, changed, with_text, with_settled, draft_of, AreFree}

-- whatever was made since, the same forest is kept
pub same-kept : {start : Keeping} {l l2 : Ledger} {k k2 : Keeping} → Made start l k → AreTrees k → Made start l2 k2 → AreTrees k2 → (rolled_back l2 k2).forest ≡ (rolled_back l k).forest
same-kept m trees m2 trees2 = ap (λ (k : Keeping). k.forest) (rolls_back m2 trees2 ∙ sym (rolls_back m trees))

-- ---- texts

-- kept texts beside it change nothing of what a forest becomes
pub set-alone : (l : Limits) (d : Draft) (n : ℕ) (text : List ℕ) (k : Keeping) → with_text d (text_set l n text (alone k.forest)) ≡ with_text d (text_set l n text k)
set-alone l d n text k = by (passed_by_text l (length text) (forest_with_text n text k.forest).nodes)
  where
    by : (fault : Option TreeFault) → with_text d (unless fault (before_of n k.forest.nodes, record { forest = forest_with_text n text k.forest; kept = [] ++ taken_from n k.forest.nodes }))
        ≡ with_text d (unless fault (before_of n k.forest.nodes, record { forest = forest_with_text n text k.forest; kept = k.kept ++ taken_from n k.forest.nodes }))
    by None = refl
    by (Some fault) = refl

has-text : (n : ℕ) (ts us : List KeptText) → list_any (λ (t : KeptText). t.number == n) us ≡ true → list_any (λ (t : KeptText). t.number == n) (ts ++ us) ≡ true
has-text n [] us h = h
has-text n (t ∷ ts) us h = ap (λ b. (t.number == n) || b) (has-text n ts us h) ∙ or-true (t.number == n)
  where
    or-true : (b : Bool) → (b || true) ≡ true
    or-true true = refl
    or-true false = refl

-- the texts that were taken from an element are kept
taken-kept : (owner : ℕ) (kept : List KeptText) (pre texts : List Node) → are_kept (numbers texts) (kept ++ kept_from owner (pre ++ texts)) ≡ true
taken-kept owner kept pre [] = refl
taken-kept owner kept pre (x ∷ xs) =
    let here : list_any (λ (t : KeptText). t.number == x.number) (kept ++ kept_from owner (pre ++ (x ∷ xs))) ≡ true =
    has-text x.number kept (kept_from owner (pre ++ (x ∷ xs))) (among pre) in
    ap (λ b. b && are_kept (numbers xs) (kept ++ kept_from owner (pre ++ (x ∷ xs)))) here ∙ subst (λ l. are_kept (numbers xs) (kept ++ kept_from owner l) ≡ true) (shift pre) (taken-kept owner kept (pre ++ (x ∷ [])) xs)
  where
    same : (x.number == x.number) ≡ true
    same = grind (arith, nat_tests)

    among : (us : List Node) → list_any (λ (t : KeptText). t.number == x.number) (kept_from owner (us ++ (x ∷ xs))) ≡ true
    among [] = ap (λ b. b || list_any (λ (t : KeptText). t.number == x.number) (kept_from owner xs)) same
    among (u ∷ us) = ap (λ b. (u.number == x.number) || b) (among us) ∙ or-true (u.number == x.number)
      where
        or-true : (b : Bool) → (b || true) ≡ true
        or-true true = refl
        or-true false = refl

    shift : (us : List Node) → (us ++ (x ∷ [])) ++ xs ≡ us ++ (x ∷ xs)
    shift [] = refl
    shift (u ∷ us) = ap (λ l. u ∷ l) (shift us)

before-kept : (n : ℕ) (k : Keeping) (after : Forest) → MayGiveUp (before_of n k.forest.nodes) (record { forest = after; kept = k.kept ++ taken_from n k.forest.nodes })
before-kept n k after = by (is_attribute_at n k.forest.nodes)
  where
    by : (b : Bool) → MayGiveUp (if b then attribute_text (value_in (tree_of n k.forest.nodes)) else element_texts (numbers (texts_in (tree_of n k.forest.nodes))))
        (record { forest = after; kept = k.kept ++ (if b then [] else kept_from n (texts_in (tree_of n k.forest.nodes))) })
    by true = tt
    by false = taken-kept n k.kept [] (texts_in (tree_of n k.forest.nodes))

-- what was before can be given up
pub set-kept : (l : Limits) (n : ℕ) (text : List ℕ) (k after : Keeping) (before : Before) → text_set l n text k ≡ Ok (before, after) → MayGiveUp before after
set-kept l n text k after before e = by (passed_by_text l (length text) (forest_with_text n text k.forest).nodes) e
  where
    by : (fault : Option TreeFault) → unless {X = Before × Keeping} fault (before_of n k.forest.nodes, record { forest = forest_with_text n text k.forest; kept = k.kept ++ taken_from n k.forest.nodes }) ≡ Ok (before, after) → MayGiveUp before after
    by None e =
        let same : ◌≡◌ {A = Before × Keeping} (before_of n k.forest.nodes, record { forest = forest_with_text n text k.forest; kept = k.kept ++ taken_from n k.forest.nodes }) (before, after) = cc e in
        subst (λ (p : Before × Keeping). MayGiveUp p.0 p.1) same (before-kept n k (forest_with_text n text k.forest))
    by (Some fault) e = cc e

-- ---- a draft that changed

-- the same forest is kept, the present one stands, and these numbers are reserved
pub numbered-draft : {start : Keeping} {l l2 : Ledger} {k k2 : Keeping} {first : ℕ} {used : List ℕ} (d : Draft) (first2 : ℕ) (used2 : List ℕ) → draft_of l k first used ≡ d → Made start l k → AreTrees k → Made start l2 k2 → AreTrees k2
    → draft_of l2 k2 first2 used2 ≡ record { kept = d.kept; now = k2.forest; first = first2; used = used2 }
numbered-draft {k2 = k2} d first2 used2 view m trees m2 trees2 =
    ap (λ (f : Forest). record { kept = f; now = k2.forest; first = first2; used = used2 }) (same-kept m trees m2 trees2 ∙ ap (λ (e : Draft). e.kept) view)

-- the same where no number is reserved
pub drafted : {start : Keeping} {l l2 : Ledger} {k k2 : Keeping} {first first2 : ℕ} {used used2 : List ℕ} (d : Draft) → draft_of l k first used ≡ d → Made start l k → AreTrees k → Made start l2 k2 → AreTrees k2
    → first2 ≡ k2.forest.next → used2 ≡ [] → draft_of l2 k2 first2 used2 ≡ changed d k2.forest
drafted {k2 = k2} {first2 = first2} {used2 = used2} d view m trees m2 trees2 none gone =
    numbered-draft d first2 used2 view m trees m2 trees2 ∙ ap (λ n. record { kept = d.kept; now = k2.forest; first = n; used = used2 }) none
    ∙ ap (λ ns. record { kept = d.kept; now = k2.forest; first = k2.forest.next; used = ns }) gone

-- a forest that was just kept
pub kept-draft : {first : ℕ} {used : List ℕ} (k : Keeping) → Made k (kept_at k.forest) k → AreTrees k → first ≡ k.forest.next → used ≡ [] → draft_of (kept_at k.forest) k first used ≡ kept_as k.forest
kept-draft {first = first} {used = used} k m trees none gone =
    ap (λ (q : Keeping). record { kept = q.forest; now = k.forest; first = first; used = used }) (rolls_back m trees) ∙ ap (λ n. record { kept = k.forest; now = k.forest; first = n; used = used }) none
    ∙ ap (λ ns. record { kept = k.forest; now = k.forest; first = k.forest.next; used = ns }) gone

-- the same for an equal ledger and an equal forest
pub made-as : {start : Keeping} {l l2 : Ledger} {k k2 : Keeping} → Made start l k → l2 ≡ l → k2 ≡ k → Made start l2 k2
made-as {start = start} {l2 = l2} {k = k} m e f = subst (Made start l2) (sym f) (subst (λ l. Made start l k) (sym e) m)

pub trees-as : {k k2 : Keeping} → AreTrees k → k2 ≡ k → AreTrees k2
trees-as trees f = subst AreTrees (sym f) trees

-- what came in stands beside the same kept texts
pub with_kept : (k k2 : Keeping) → k2.kept ≡ k.kept → k2 ≡ record k { forest = k2.forest }
with_kept k k2 e = ap (λ (l : List KeptText). record { forest = k2.forest; kept = l }) e

-- ---- numbers that are reserved

-- none is
pub none-free : (first : ℕ) (used : List ℕ) (k : Keeping) → first ≡ k.forest.next → AreFree first used k
none-free first used k e m least less unused = absurd (let no : ⊥ = omega (arith, e, least, less) in no)

pub free-as : (first : ℕ) (used : List ℕ) {k k2 : Keeping} → AreFree first used k → k2 ≡ k → AreFree first used k2
free-as first used free e = subst (AreFree first used) (sym e) free

-- those from the next one on are
pub next-free : (count : ℕ) (k : Keeping) → AreTrees k → AreFree k.forest.next [] (record k { forest = reserved count k.forest })
next-free count k trees m least less unused = record {
  reserved = less;
  unused = fresh-nodes m k.forest.next k.forest.nodes least trees.below;
  unkept = fresh-kept m k.forest.next k.kept least trees.kept_below;
}

-- ---- a text that was set

-- the text has the next number
pub set-is : (n : ℕ) (text : List ℕ) (k after : Keeping) (before : Before) → text_set limits n text k ≡ Ok (before, after)
    → ◌≡◌ {A = Before × Keeping} (before, after) (before_of n k.forest.nodes, with_new_text k.forest.next (length (new_texts n text k.forest)) n text k)
set-is n text k after before e =
    let whole : Forest → Before × Keeping = λ f. (before_of n k.forest.nodes, record { forest = f; kept = k.kept ++ taken_from n k.forest.nodes }) in
    sym (unless-ok {X = Before × Keeping} _ (whole (forest_with_text n text k.forest)) (before, after) e)
    ∙ ap (λ l. whole (record { nodes = l; next = k.forest.next + length (new_texts n text k.forest) })) (numbered-is k.forest.next n text k.forest.nodes)

pub text-made : {start : Keeping} {l l1 l2 : Ledger} {k after k2 : Keeping} (number more n : ℕ) (text : List ℕ) (before : Before) → Made start l k → AreTrees k → IsSettable n k.forest
    → ◌≡◌ {A = Before × Keeping} (before, after) (before_of n k.forest.nodes, with_new_text number more n text k) → l1 ≡ with_note (of_text n) l → (l2, k2) ≡ text_filled before l1 after → Made start l2 k2
text-made {start = start} {l = l} {after = after} number more n text before m trees able e noted_ filled =
    let whole = filled ∙ ap (λ l. text_filled before l after) noted_ ∙ ap (λ (p : Before × Keeping). text_filled p.0 (with_note (of_text n) l) p.1) e in
    subst (λ (p : Ledger × Keeping). Made start p.0 p.1) (sym whole) (texts number more n text m trees able)

-- the ledger does not change what the setting leaves
filled-forest : {l l1 l2 : Ledger} {k2 : Keeping} (later : Keeping) (n : ℕ) (before : Before) → l1 ≡ with_note (of_text n) l → (l2, k2) ≡ text_filled before l1 later → k2.forest ≡ later.forest
filled-forest {l = l} later n before noted_ filled =
    ap (λ (p : Ledger × Keeping). p.1.forest) (filled ∙ ap (λ l. text_filled before l later) noted_) ∙ set-forest n before l.entries l.next later

pub text-drafted : {start : Keeping} {l l1 l2 : Ledger} {k after k2 : Keeping} {first first2 : ℕ} {used used2 : List ℕ} (d : Draft) (n : ℕ) (text : List ℕ) (before : Before)
    → draft_of l k first used ≡ d → Made start l k → AreTrees k → IsSettable n k.forest
    → text_set limits n text k ≡ Ok (before, after) → l1 ≡ with_note (of_text n) l → (l2, k2) ≡ text_filled before l1 after → AreTrees k2 → first2 ≡ k2.forest.next → used2 ≡ []
    → with_text d (text_set limits n text (alone d.now)) ≡ Ok (draft_of l2 k2 first2 used2)
text-drafted {l = l} {k = k} {after = after} {k2 = k2} d n text before view m trees able e noted_ filled trees2 none gone =
    let m2 = text-made k.forest.next (length (new_texts n text k.forest)) n text before m trees able (set-is n text k after before e) noted_ filled in
    ap (λ (e : Draft). with_text d (text_set limits n text (alone e.now))) (sym view) ∙ set-alone limits d n text k ∙ ap (with_text d) e
    ∙ ap (λ (f : Forest). Ok (changed d f)) (sym (filled-forest after n before noted_ filled)) ∙ ap Ok (sym (drafted d view m trees m2 trees2 none gone))

-- ---- a text that was settled

-- no more numbers are passed over
pub settled-is : (number n : ℕ) (text : List ℕ) (k : Keeping) → numbered_text_set number n text k ≡ (before_of n k.forest.nodes, with_new_text number 0 n text k)
settled-is number n text k =
    let plus : k.forest.next ≡ k.forest.next + 0 = omega arith in
    ap (λ next. (before_of n k.forest.nodes, record { forest = record { nodes = with_numbered_text number n text k.forest.nodes; next = next }; kept = k.kept ++ taken_from n k.forest.nodes })) plus

-- what was before can be given up
pub settled-kept : (number n : ℕ) (text : List ℕ) (k after : Keeping) (before : Before) → (before, after) ≡ numbered_text_set number n text k → MayGiveUp before after
settled-kept number n text k after before e = subst (λ (p : Before × Keeping). MayGiveUp p.0 p.1) (sym e) (before-kept n k (record k.forest { nodes = with_numbered_text number n text k.forest.nodes }))

-- a number that is free stays so where a text with another one comes in
module _ (m number n : ℕ) (text : List ℕ) (k : Keeping) (other : (number == m) ≡ false) (free : IsFree m k) where
  abbrev settled_at : Keeping
  settled_at = (numbered_text_set number n text k).1

  kept-free : list_any (is_numbered m) settled_at.kept ≡ false
  kept-free = both-kept m k.kept (taken_from n k.forest.nodes) free.unkept (taken-none m n k.forest.nodes free.unused)

  nodes-free : has_number m settled_at.forest.nodes ≡ false
  nodes-free = numbered-none m number n text k.forest.nodes other free.unused

  given-free : (before : Before) → IsFree m (given_up before settled_at)
  given-free (attribute_text t) = record { reserved = free.reserved; unused = nodes-free; unkept = kept-free }
  given-free (element_texts ns) = record { reserved = free.reserved; unused = nodes-free; unkept = left-kept m (element_texts ns) settled_at kept-free }

  set-free : (entries : List Entry) (next : ℕ) → IsFree m (with_set n (before_of n k.forest.nodes) entries next settled_at).1
  set-free entries next = by (is_known n settled_at entries)
    where
      by : (b : Bool) → IsFree m (cond {A = Ledger × Keeping} b (record { entries = entries; next = next }, given_up (before_of n k.forest.nodes) settled_at) (record { entries = undo.set n (before_of n k.forest.nodes) ∷ entries; next = next }, settled_at)).1
      by true = given-free (before_of n k.forest.nodes)
      by false = record { reserved = free.reserved; unused = nodes-free; unkept = kept-free }

has-last : (m number : ℕ) (ns : List ℕ) → has m (ns ++ number ∷ []) ≡ false → (has m ns ≡ false) × ((number == m) ≡ false)
has-last m number [] h =
    let turn : (number == m) ≡ (m == number) = grind (arith, nat_tests) in
    (refl, turn ∙ (or-parts (m == number) false h).0)
has-last m number (n ∷ ns) h =
    let parts = or-parts (m == n) (has m (ns ++ number ∷ [])) h in
    let rest = has-last m number ns parts.1 in
    (rw parts.0 rest.0, rest.1)

pub settled-free : {l l1 l2 : Ledger} {k later k2 : Keeping} (first : ℕ) (used : List ℕ) (number n : ℕ) (text : List ℕ) (before : Before) → AreFree first used k
    → (before, later) ≡ numbered_text_set number n text k → l1 ≡ with_note (of_text n) l → (l2, k2) ≡ text_filled before l1 later → AreFree first (used ++ number ∷ []) k2
settled-free {l = l} {k = k} {later = later} {k2 = k2} first used number n text before free e noted_ filled m least less unused =
    let whole = filled ∙ ap (λ l. text_filled before l later) noted_ ∙ ap (λ (p : Before × Keeping). text_filled p.0 (with_note (of_text n) l) p.1) e in
    let stands_ : k2.forest.next ≡ k.forest.next = ap (λ (f : Forest). f.next) (filled-forest later n before noted_ filled) ∙ ap (λ (p : Before × Keeping). p.1.forest.next) e in
    let parts = has-last m number used unused in
    let old : IsFree m k = free m least (omega (arith, less, stands_)) parts.0 in
    subst (λ (p : Ledger × Keeping). IsFree m p.1) (sym whole) (set-free m number n text k parts.1 old l.entries l.next)

pub settled-draft : {start : Keeping} {l l1 l2 : Ledger} {k later k2 : Keeping} {first : ℕ} {used used2 : List ℕ} (d : Draft) (number n : ℕ) (text : List ℕ) (before : Before)
    → draft_of l k first used ≡ d → Made start l k → AreTrees k → IsSettable n k.forest
    → (before, later) ≡ numbered_text_set number n text k → l1 ≡ with_note (of_text n) l → (l2, k2) ≡ text_filled before l1 later → AreTrees k2 → used2 ≡ used ++ number ∷ []
    → draft_of l2 k2 first used2 ≡ with_settled number n text d
settled-draft {l = l} {k = k} {later = later} {k2 = k2} {first = first} {used = used} {used2 = used2} d number n text before view m trees able e noted_ filled trees2 more =
    let m2 = text-made number 0 n text before m trees able (e ∙ settled-is number n text k) noted_ filled in
    let stands_ : k2.forest ≡ record k.forest { nodes = with_numbered_text number n text k.forest.nodes } = filled-forest later n before noted_ filled ∙ ap (λ (p : Before × Keeping). p.1.forest) e in
    numbered-draft d first used2 view m trees m2 trees2
    ∙ ap (λ (f : Forest). record { kept = d.kept; now = f; first = first; used = used2 }) stands_
    ∙ ap (λ ns. record { kept = d.kept; now = record k.forest { nodes = with_numbered_text number n text k.forest.nodes }; first = first; used = ns }) more
    ∙ ap (λ (e : Draft). record { kept = d.kept; now = record e.now { nodes = with_numbered_text number n text e.now.nodes }; first = e.first; used = e.used ++ number ∷ [] }) view
