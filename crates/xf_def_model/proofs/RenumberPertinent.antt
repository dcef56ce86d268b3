-- What is pertinent goes with a renumbering of the nodes, and how many entries that are is the same.
use Rattle.std.proofs.Common.{◌≡◌, ℕ, zero, suc, not, ◌&&◌, ◌||◌, List, [], ◌∷◌, map, length, refl, ap, ◌∙◌}
use Rattle.std.specs.Prelude.{filter}
use Rattle.std.specs.List.{list_any}
use Rattle.std.proofs.lemmas.List.{length-map}
use Rattle.xf_def_forest.specs.Visit.{Visit, has}
use Rattle.xf_def_forest.specs.Same.{IsRenumbering, renumbered_visit}
use Rattle.xf_def_forest.proofs.RenumberLaws.{filter-through, any-through, has-renumbered}
use Rattle.xf_def_model.specs.Rules.{Scope}
use Rattle.xf_def_model.specs.Applied.{Entry, is_calculate}
use Rattle.xf_def_model.specs.Entries.{is_computed, expression_of, reads_of, looks_of, touches}
use Rattle.xf_def_model.specs.Pertinent.{Changes, Asking, placed_in, asking, askings, stands_as, reads_any, is_begun, calculated_in, follows, next_wave, waves, pertinent_of, pertinent, pertinent_count}
use Rattle.xf_def_model.specs.Same.{renumbered_entry, renumbered_scope, renumbered_changes, renumbered_asking}
use Rattle.xf_def_model.proofs.RenumberEntries.{ScopeGoes, reads-renumbered, looks-renumbered, touches-renumbered}

module _ (f : ℕ → ℕ) (same : IsRenumbering f) (all : List Visit) (changes : Changes) where
  abbrev others : List Visit
  others = map (renumbered_visit f) all

  stands-renumbered : (a : Asking) (old : Entry) → stands_as (renumbered_asking f a) (renumbered_entry f old) ≡ stands_as a old
  stands-renumbered a old = rw (same a.entry.node old.node) refl

  reads-any_renumbered : (a : Asking) (ns : List ℕ) → reads_any others (renumbered_asking f a) (map f ns) ≡ reads_any all a ns
  reads-any_renumbered a ns = any-through f (touches others (map f a.reads)) (touches all a.reads) (touches-renumbered f same all a.reads) ns

  looks-any_renumbered : (ns looks : List ℕ) → list_any (λ n. has n (map f ns)) (map f looks) ≡ list_any (λ n. has n ns) looks
  looks-any_renumbered ns looks = any-through f (λ n. has n (map f ns)) (λ n. has n ns) (λ n. has-renumbered f same n ns) looks

  begun-renumbered : (a : Asking) → is_begun others (renumbered_changes f changes) (renumbered_asking f a) ≡ is_begun all changes a
  begun-renumbered a =
      ap (λ b. not b || reads_any others (renumbered_asking f a) (map f changes.texts) || (is_calculate a.entry && has (f a.entry.node) (map f changes.texts)) || list_any (λ n. has n (map f changes.lists)) (map f a.looks))
      (any-through (renumbered_entry f) (stands_as (renumbered_asking f a)) (stands_as a) (stands-renumbered a) changes.stood)
      ∙ ap (λ b. not (list_any (stands_as a) changes.stood) || b || (is_calculate a.entry && has (f a.entry.node) (map f changes.texts)) || list_any (λ n. has n (map f changes.lists)) (map f a.looks))
      (reads-any_renumbered a changes.texts)
      ∙ ap (λ b. not (list_any (stands_as a) changes.stood) || reads_any all a changes.texts || (is_calculate a.entry && b) || list_any (λ n. has n (map f changes.lists)) (map f a.looks))
      (has-renumbered f same a.entry.node changes.texts)
      ∙ ap (λ b. not (list_any (stands_as a) changes.stood) || reads_any all a changes.texts || (is_calculate a.entry && has a.entry.node changes.texts) || b)
      (looks-any_renumbered changes.lists a.looks)

  calculated-renumbered : (wave : List Asking) → calculated_in (map (renumbered_asking f) wave) ≡ map f (calculated_in wave)
  calculated-renumbered wave =
      ap (map (λ (a : Asking). a.entry.node)) (filter-through (renumbered_asking f) (λ a. is_calculate a.entry) (λ a. is_calculate a.entry) (λ a. refl) wave)
      ∙ nodes (filter (λ (a : Asking). is_calculate a.entry) wave)
    where
      nodes : (xs : List Asking) → map (λ (a : Asking). a.entry.node) (map (renumbered_asking f) xs) ≡ map f (map (λ (a : Asking). a.entry.node) xs)
      nodes [] = refl
      nodes (x ∷ xs) = ap (λ l. f x.entry.node ∷ l) (nodes xs)

  follows-renumbered : (wave : List Asking) (a : Asking) → follows others (renumbered_changes f changes) (map (renumbered_asking f) wave) (renumbered_asking f a) ≡ follows all changes wave a
  follows-renumbered wave a =
      ap (λ b. b || reads_any others (renumbered_asking f a) (calculated_in (map (renumbered_asking f) wave))) (begun-renumbered a)
      ∙ ap (λ b. is_begun all changes a || b) (ap (reads_any others (renumbered_asking f a)) (calculated-renumbered wave) ∙ reads-any_renumbered a (calculated_in wave))

  next-renumbered : (asked wave : List Asking)
      → next_wave others (renumbered_changes f changes) (map (renumbered_asking f) asked) (map (renumbered_asking f) wave) ≡ map (renumbered_asking f) (next_wave all changes asked wave)
  next-renumbered asked wave =
      filter-through (renumbered_asking f) (follows others (renumbered_changes f changes) (map (renumbered_asking f) wave)) (follows all changes wave) (follows-renumbered wave) asked

  waves-renumbered : (asked : List Asking) (k : ℕ) (wave : List Asking)
      → waves others (renumbered_changes f changes) (map (renumbered_asking f) asked) k (map (renumbered_asking f) wave) ≡ map (renumbered_asking f) (waves all changes asked k wave)
  waves-renumbered asked zero wave = refl
  waves-renumbered asked (suc k) wave =
      ap (waves others (renumbered_changes f changes) (map (renumbered_asking f) asked) k) (next-renumbered asked wave) ∙ waves-renumbered asked k (next_wave all changes asked wave)

  pub pertinent_of-renumbered : (asked : List Asking) → pertinent_of others (renumbered_changes f changes) (map (renumbered_asking f) asked) ≡ map (renumbered_asking f) (pertinent_of all changes asked)
  pertinent_of-renumbered asked =
      ap (λ k. waves others (renumbered_changes f changes) (map (renumbered_asking f) asked) k []) (length-map asked (renumbered_asking f)) ∙ waves-renumbered asked (length asked) []

  module _ (scope : Scope) (goes : ScopeGoes f scope) where
    asking-renumbered : (e : Entry) → asking (renumbered_scope f scope) others (renumbered_entry f e) ≡ renumbered_asking f (asking scope all e)
    asking-renumbered e =
        ap (λ (r : List ℕ). record { entry = renumbered_entry f e; is_placed = placed_in (expression_of scope e); reads = r; looks = looks_of (renumbered_scope f scope) others (renumbered_entry f e) }) (reads-renumbered f same scope goes all e)
        ∙ ap (λ (l : List ℕ). record { entry = renumbered_entry f e; is_placed = placed_in (expression_of scope e); reads = map f (reads_of scope all e); looks = l }) (looks-renumbered f same scope goes all e)

    each-asking : (es : List Entry) → map (asking (renumbered_scope f scope) others) (map (renumbered_entry f) es) ≡ map (renumbered_asking f) (map (asking scope all) es)
    each-asking [] = refl
    each-asking (e ∷ es) =
        ap (λ a. a ∷ map (asking (renumbered_scope f scope) others) (map (renumbered_entry f) es)) (asking-renumbered e)
        ∙ ap (λ l. renumbered_asking f (asking scope all e) ∷ l) (each-asking es)

    askings-renumbered : (entries : List Entry) → askings (renumbered_scope f scope) others (map (renumbered_entry f) entries) ≡ map (renumbered_asking f) (askings scope all entries)
    askings-renumbered entries =
        ap (map (asking (renumbered_scope f scope) others)) (filter-through (renumbered_entry f) is_computed is_computed (λ e. refl) entries) ∙ each-asking (filter is_computed entries)

    entries-of : (xs : List Asking) → map (λ (a : Asking). a.entry) (map (renumbered_asking f) xs) ≡ map (renumbered_entry f) (map (λ (a : Asking). a.entry) xs)
    entries-of [] = refl
    entries-of (x ∷ xs) = ap (λ l. renumbered_entry f x.entry ∷ l) (entries-of xs)

    pub pertinent-renumbered : (entries : List Entry) → pertinent (renumbered_scope f scope) others (map (renumbered_entry f) entries) (renumbered_changes f changes) ≡ map (renumbered_entry f) (pertinent scope all entries changes)
    pertinent-renumbered entries =
        ap (λ xs. map (λ (a : Asking). a.entry) (pertinent_of others (renumbered_changes f changes) xs)) (askings-renumbered entries)
        ∙ ap (map (λ (a : Asking). a.entry)) (pertinent_of-renumbered (askings scope all entries))
        ∙ entries-of (pertinent_of all changes (askings scope all entries))

    pub count-renumbered : (entries : List Entry) → pertinent_count (renumbered_scope f scope) others (map (renumbered_entry f) entries) (renumbered_changes f changes) ≡ pertinent_count scope all entries changes
    count-renumbered entries = ap length (pertinent-renumbered entries) ∙ length-map (pertinent scope all entries changes) (renumbered_entry f)
