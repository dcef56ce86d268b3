-- The indexes of repeats go with a renumbering: the rows that they give, passes over them, how they start and how one is set.
use Rattle.std.proofs.Common.{◌≡◌, ℕ, zero, suc, Bool, true, false, List, [], ◌∷◌, map, length, get_or, min, Option, Some, None, option_map, Result, refl, sym, ap, ◌∙◌, if◌then◌else◌}
use Rattle.std.specs.Prelude.{option_and_then}
use Rattle.std.proofs.lemmas.List.{map-set}
use Rattle.std.proofs.lemmas.Option.{slice_get-map}
use Rattle.xf_def_forest.specs.Same.{IsRenumbering}
use Rattle.xf_def_forest.proofs.RenumberLaws.{has-renumbered}
use Rattle.xf_def_xpath.specs.Given.{Given}
use Rattle.xf_def_xpath.specs.Setting.{◌>>=◌, each}
use Rattle.xf_def_xpath.specs.Same.{renumbered_given}
use Rattle.xf_def_xpath.proofs.Options.{then-through, map-through}
use Rattle.xf_def_ui.specs.Interface.{Interface}
use Rattle.xf_def_ui.specs.Elements.{element_at, repeats_around}
use Rattle.xf_def_ui.specs.Around.{Around}
use Rattle.xf_def_ui.specs.Rows.{row_at, held}
use Rattle.xf_def_ui.specs.Index.{Index, unset, number_of, index_of, with_index, indexed_rows, named_indexes, seeing, rows_under, rows_now, by_lines, place_in, last_from, index_rule, index_at, Pass, ruled, passed, begins_anew, pass_over, pass, Stop, same_node, same_indexes, again_unless, after_pass, brought_up}
use Rattle.xf_def_ui.specs.Started as started
use Rattle.xf_def_machine.specs.Same.{renumbered_index}
use Rattle.xf_law_sessions.specs.Same.Controls.{GoesAround, renumbered_brought}
use Rattle.xf_law_sessions.proofs.SameLemmas.ForestGoes.{map-length}
use Rattle.xf_law_sessions.proofs.SameLemmas.ScopeGoes.{named-goes}
use Rattle.xf_law_sessions.proofs.SameLemmas.AroundGoes.{BoundGoes, position-goes, rows-go}

-- the same items, and what is made of them renumbered
pub each-same : {A B C : Type 0} (h : B → C) (k : A → Option B) (q : A → Option C) → ((x : A) → q x ≡ option_map h (k x)) → (xs : List A) → each q xs ≡ option_map (map h) (each k xs)
each-same h k q e [] = refl
each-same h k q e (x ∷ xs) =
    ap (λ m. m >>= λ y. each q xs >>= λ ys. Some (y ∷ ys)) (e x)
    ∙ then-through h (map h) (k x) (λ y. each k xs >>= λ ys. Some (y ∷ ys)) (λ y. each q xs >>= λ ys. Some (y ∷ ys))
    (λ y. ap (λ m. m >>= λ ys. Some (h y ∷ ys)) (each-same h k q e xs) ∙ then-through (map h) (map h) (each k xs) (λ ys. Some (y ∷ ys)) (λ ys. Some (h y ∷ ys)) (λ ys. refl))

pub node-at : (f : ℕ → ℕ) (k : ℕ) (is : List Index) → (get_or (map (renumbered_index f) is) k unset).node ≡ option_map f (get_or is k unset).node
node-at f zero [] = refl
node-at f (suc k) [] = refl
node-at f zero (i ∷ is) = refl
node-at f (suc k) (i ∷ is) = node-at f k is

pub index-at : (f : ℕ → ℕ) (k : ℕ) (is : List Index) → get_or (map (renumbered_index f) is) k unset ≡ renumbered_index f (get_or is k unset)
index-at f zero [] = refl
index-at f (suc k) [] = refl
index-at f zero (i ∷ is) = refl
index-at f (suc k) (i ∷ is) = index-at f k is

pub row-at : (f : ℕ → ℕ) (rows : List ℕ) (k : ℕ) → row_at (map f rows) k ≡ option_map f (row_at rows k)
row-at f rows zero = refl
row-at f rows (suc k) = slice_get-map f rows k

abbrev renumbered_pass : (ℕ → ℕ) → Pass → Pass
renumbered_pass f s = record { indexes = map (renumbered_index f) s.indexes; restarted = s.restarted }

module _ (f : ℕ → ℕ) (same : IsRenumbering f) (form : Interface) where
  pub indexed-goes : (is : List Index) (n : ℕ) → indexed_rows form (map (renumbered_index f) is) n ≡ option_map (map f) (indexed_rows form is n)
  indexed-goes is n =
      each-same f (λ r. (index_of form is r).node) (λ r. (index_of form (map (renumbered_index f) is) r).node) (λ r. node-at f (number_of form r) is) (repeats_around form n)

  pub seeing-goes : (a b : Around) → GoesAround f a b → (is : List Index) → GoesAround f (seeing form is a) (seeing form (map (renumbered_index f) is) b)
  seeing-goes a b g is = record {
    functions = g.functions;
    most = g.most;
    given = ap {A = Given} {B = Given} (λ x. record x { indexes = named_indexes form (map (renumbered_index f) is); event = None }) g.given
        ∙ ap {A = List (List ℕ × ℕ)} {B = Given} (λ x. record (renumbered_given f a.given) { indexes = x; event = None }) (named-goes f form is form.repeats);
    all = g.all;
    bound = g.bound;
  }

  -- ---- the rule of one index

  set-goes : (is : List Index) (r : ℕ) (i : Index) → with_index form r (renumbered_index f i) (map (renumbered_index f) is) ≡ map (renumbered_index f) (with_index form r i is)
  set-goes is r i = sym (map-set (renumbered_index f) is (number_of form r) i)

  at-goes : (rows : List ℕ) (k : ℕ) → index_at (map f rows) k ≡ renumbered_index f (index_at rows k)
  at-goes rows k = ap {A = Option ℕ} {B = Index} (λ o. record { index = k; node = o }) (row-at f rows k)

  place-goes : (rows : List ℕ) (n : ℕ) → place_in (map f rows) (f n) ≡ place_in rows n
  place-goes rows n = rw (has-renumbered f same n rows, position-goes f same n rows) refl

  kept-goes : (rows : List ℕ) (o : Option ℕ) → option_and_then (place_in (map f rows)) (option_map f o) ≡ option_and_then (place_in rows) o
  kept-goes rows None = refl
  kept-goes rows (Some n) = place-goes rows n

  last-goes : (place : ℕ) (added rows : List ℕ) → last_from place (map f added) (map f rows) ≡ last_from place added rows
  last-goes place added [] = refl
  last-goes place added (n ∷ ns) = rw (last-goes (suc place) added ns, has-renumbered f same n added) refl

  rule-goes : (rows : List ℕ) (kept : Option ℕ) (old : ℕ) (added : List ℕ) → index_rule (map f rows) (option_map f kept) old (map f added) ≡ index_rule rows kept old added
  rule-goes rows kept old added =
      ap (λ k. by_lines k (last_from 1 (map f added) (map f rows)) (option_and_then (place_in (map f rows)) (option_map f kept)) old) (map-length f rows)
      ∙ ap (λ o. by_lines (length rows) o (option_and_then (place_in (map f rows)) (option_map f kept)) old) (last-goes 1 added rows)
      ∙ ap (λ o. by_lines (length rows) (last_from 1 added rows) o old) (kept-goes rows kept)

  ruled-goes : (b : Bool) (rows : List ℕ) (old : Index) (added : List ℕ) → ruled b (map f rows) (renumbered_index f old) (map f added) ≡ ruled b rows old added
  ruled-goes true rows old added = ap (λ k. (min 1 k, true)) (map-length f rows)
  ruled-goes false rows old added = rule-goes rows old.node old.index added

  passed-goes : (r : ℕ) (rows : List ℕ) (s : Pass) (new : ℕ × Bool) → passed form r (map f rows) (renumbered_pass f s) new ≡ renumbered_pass f (passed form r rows s new)
  passed-goes r rows s new =
      ap {A = List Index} {B = Pass} (λ is. record { indexes = is; restarted = if new.1 then r ∷ s.restarted else s.restarted })
      (ap (λ i. with_index form r i (map (renumbered_index f) s.indexes)) (at-goes rows new.0) ∙ set-goes s.indexes r (index_at rows new.0))

  -- ---- over all repeats

  module _ (h : (n : ℕ) → BoundGoes f (element_at form n).binding) (a b : Around) (g : GoesAround f a b) where
    under-goes : (is : List Index) (r : ℕ) (o : Option (List ℕ))
        → rows_under form (seeing form (map (renumbered_index f) is) b) r (option_map (map f) o) ≡ option_map (map f) (rows_under form (seeing form is a) r o)
    under-goes is r None = refl
    under-goes is r (Some outer) = rows-go f same (seeing form is a) (seeing form (map (renumbered_index f) is) b) (seeing-goes a b g is) form h outer r

    pub now-goes : (is : List Index) (r : ℕ) → rows_now form b (map (renumbered_index f) is) r ≡ option_map (map f) (rows_now form a is r)
    now-goes is r =
        ap (rows_under form (seeing form (map (renumbered_index f) is) b) r) (indexed-goes is r) ∙ under-goes is r (indexed_rows form is r)

    over-goes : (added : List ℕ) (s : Pass) (rs : List ℕ) → pass_over form b (map f added) (renumbered_pass f s) rs ≡ option_map (renumbered_pass f) (pass_over form a added s rs)
    over-goes added s [] = refl
    over-goes added s (r ∷ rs) =
        let is = map (renumbered_index f) s.indexes in
        let anew = begins_anew form s r in
        let next : List ℕ → Option Pass = λ rows. pass_over form b (map f added) (passed form r rows (renumbered_pass f s) (ruled anew rows (index_of form is r) (map f added))) rs in
        ap (λ o. o >>= next) (now-goes s.indexes r)
        ∙ then-through (map f) (renumbered_pass f) (rows_now form a s.indexes r) (λ rows. pass_over form a added (passed form r rows s (ruled anew rows (index_of form s.indexes r) added)) rs) next
        (λ rows. ap (λ i. pass_over form b (map f added) (passed form r (map f rows) (renumbered_pass f s) (ruled anew (map f rows) i (map f added))) rs) (index-at f (number_of form r) s.indexes)
        ∙ ap (λ k. pass_over form b (map f added) (passed form r (map f rows) (renumbered_pass f s) k) rs) (ruled-goes anew rows (index_of form s.indexes r) added)
        ∙ ap (λ x. pass_over form b (map f added) x rs) (passed-goes r rows s (ruled anew rows (index_of form s.indexes r) added))
        ∙ over-goes added (passed form r rows s (ruled anew rows (index_of form s.indexes r) added)) rs)

    pass-goes : (added : List ℕ) (is : List Index) → pass form b (map f added) (map (renumbered_index f) is) ≡ option_map (map (renumbered_index f)) (pass form a added is)
    pass-goes added is =
        let begun : Pass = record { indexes = is; restarted = [] } in
        ap (option_map (λ s. s.indexes)) (over-goes added begun form.repeats)
        ∙ map-through (renumbered_pass f) (map (renumbered_index f)) (pass_over form a added begun form.repeats) (λ s. s.indexes) (λ s. s.indexes) (λ s. refl)

    node-same : (m n : Option ℕ) → same_node (option_map f m) (option_map f n) ≡ same_node m n
    node-same None None = refl
    node-same None (Some n) = refl
    node-same (Some m) None = refl
    node-same (Some m) (Some n) = same m n

    all-same : (is js : List Index) → same_indexes (map (renumbered_index f) is) (map (renumbered_index f) js) ≡ same_indexes is js
    all-same [] [] = refl
    all-same [] (j ∷ js) = refl
    all-same (i ∷ is) [] = refl
    all-same (i ∷ is) (j ∷ js) = rw (node-same i.node j.node, all-same is js) refl

    abbrev Brings : (List Index → Result (List Index) Stop) → (List Index → Result (List Index) Stop) → Type 0
    Brings run other = (is : List Index) → other (map (renumbered_index f) is) ≡ renumbered_brought f (run is)

    again-goes : (run other : List Index → Result (List Index) Stop) → Brings run other → (c : Bool) (next : List Index)
        → again_unless c other (map (renumbered_index f) next) ≡ renumbered_brought f (again_unless c run next)
    again-goes run other e true next = refl
    again-goes run other e false next = e next

    after-goes : (run other : List Index → Result (List Index) Stop) → Brings run other → (is : List Index) (o : Option (List Index))
        → after_pass other (map (renumbered_index f) is) (option_map (map (renumbered_index f)) o) ≡ renumbered_brought f (after_pass run is o)
    after-goes run other e is None = refl
    after-goes run other e is (Some next) =
        ap (λ c. again_unless c other (map (renumbered_index f) next)) (all-same is next) ∙ again-goes run other e (same_indexes is next) next

    pub brought-goes : (most : ℕ) (added : List ℕ) → Brings (brought_up most form a added) (brought_up most form b (map f added))
    brought-goes zero added is = refl
    brought-goes (suc most) added is =
        ap (after_pass (brought_up most form b (map f added)) (map (renumbered_index f) is)) (pass-goes added is)
        ∙ after-goes (brought_up most form a added) (brought_up most form b (map f added)) (brought-goes most added) is (pass form a added is)

    -- ---- how they start, and how one is set

    takes-go : (taken other : ℕ → List ℕ → ℕ) → ((r : ℕ) (rows : List ℕ) → other r (map f rows) ≡ taken r rows) → (is : List Index) (rs : List ℕ)
        → started.each_takes form b other (map (renumbered_index f) is) rs ≡ option_map (map (renumbered_index f)) (started.each_takes form a taken is rs)
    takes-go taken other e is [] = refl
    takes-go taken other e is (r ∷ rs) =
        let js = map (renumbered_index f) is in
        let next : List ℕ → Option (List Index) = λ rows. started.each_takes form b other (with_index form r (index_at rows (other r rows)) js) rs in
        ap (λ o. o >>= next) (now-goes is r)
        ∙ then-through (map f) (map (renumbered_index f)) (rows_now form a is r) (λ rows. started.each_takes form a taken (with_index form r (index_at rows (taken r rows)) is) rs) next
        (λ rows. ap (λ k. started.each_takes form b other (with_index form r (index_at (map f rows) k) js) rs) (e r rows)
        ∙ ap (λ i. started.each_takes form b other (with_index form r i js) rs) (at-goes rows (taken r rows))
        ∙ ap (λ x. started.each_takes form b other x rs) (set-goes is r (index_at rows (taken r rows)))
        ∙ takes-go taken other e (with_index form r (index_at rows (taken r rows)) is) rs)

    held-goes : (n : ℕ) (rows : List ℕ) → held n (map f rows) ≡ held n rows
    held-goes n rows = rw (map-length f rows) refl

    restarted-goes : (r : ℕ) (c : Bool) (is : List Index) → started.restarted form b r c (map (renumbered_index f) is) ≡ option_map (map (renumbered_index f)) (started.restarted form a r c is)
    restarted-goes r true is = refl
    restarted-goes r false is =
        takes-go (λ q rows. min 1 (length rows)) (λ q rows. min 1 (length rows)) (λ q rows. ap (min 1) (map-length f rows)) is (started.repeats_inside form r)

    pub set-index-goes : (r n : ℕ) (is : List Index) → started.index_set form b r n (map (renumbered_index f) is) ≡ option_map (map (renumbered_index f)) (started.index_set form a r n is)
    set-index-goes r n is =
        let js = map (renumbered_index f) is in
        let after : List Index → Around → List Index → List ℕ → Option (List Index) = λ old x all rows.
        started.restarted form x r (same_node (index_of form old r).node (index_at rows (held n rows)).node) (with_index form r (index_at rows (held n rows)) all) in
        ap (λ o. o >>= after js b js) (now-goes is r)
        ∙ then-through (map f) (map (renumbered_index f)) (rows_now form a is r) (after is a is) (after js b js) (λ rows.
        let new = index_at rows (held n rows) in
        ap (λ k. started.restarted form b r (same_node (index_of form js r).node (index_at (map f rows) k).node) (with_index form r (index_at (map f rows) k) js)) (held-goes n rows)
        ∙ ap (λ i. started.restarted form b r (same_node (index_of form js r).node i.node) (with_index form r i js)) (at-goes rows (held n rows))
        ∙ ap (λ o. started.restarted form b r (same_node o (option_map f new.node)) (with_index form r (renumbered_index f new) js)) (node-at f (number_of form r) is)
        ∙ ap (λ c. started.restarted form b r c (with_index form r (renumbered_index f new) js)) (node-same (index_of form is r).node new.node)
        ∙ ap (started.restarted form b r (same_node (index_of form is r).node new.node)) (set-goes is r new)
        ∙ restarted-goes r (same_node (index_of form is r).node new.node) (with_index form r new is))
