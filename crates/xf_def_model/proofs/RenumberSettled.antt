-- Settled texts, the values of entries and the limits that are passed go with a renumbering of the nodes.
use Rattle.std.proofs.Common.{◌≡◌, ℕ, zero, suc, ◌+◌, ◌==◌, Bool, true, false, not, cond, ◌&&◌, ◌||◌, List, [], ◌∷◌, ◌++◌, map, length, find, fold, Option, Some, None, option_map, is_none, nat_lt, refl, sym, ap, ◌∙◌}
use Rattle.std.specs.Prelude.{filter}
use Rattle.std.specs.List.{list_any}
use Rattle.std.proofs.lemmas.List.{map-append, length-map}
use Rattle.xf_def_forest.specs.Forest.{is_root}
use Rattle.xf_def_forest.specs.Limits.{size_of}
use Rattle.xf_def_forest.specs.Visit.{Visit}
use Rattle.xf_def_forest.specs.Shape.{retexted, texts_given, value_given, with_value}
use Rattle.xf_def_forest.specs.Same.{IsRenumbering, KeepsTexts, renumbered_visit}
use Rattle.xf_def_forest.proofs.RenumberLaws.{filter-through, find-through, any-through}
use Rattle.xf_def_forest.proofs.RenumberTexts.{retexted-renumbered}
use Rattle.xf_def_xpath.specs.declared.value.Value.{Value}
use Rattle.xf_def_xpath.specs.Same.{renumbered_value}
use Rattle.xf_def_model.specs.Rules.{Scope}
use Rattle.xf_def_model.specs.Applied.{Entry, is_calculate}
use Rattle.xf_def_model.specs.Entries.{is_computed, value_of, text_of, reads_of, looks_of, asked_size, edge_count}
use Rattle.xf_def_model.specs.Settled.{Bounds, Contents, content_of, holding, calculates, fitting, content_by, computed_over, round, rounds, settled_contents, settled, values_over, settled_values, Passed, long, text, nodes, all_texts, is_long, is_over, if_passed, passed_over, passed}
use Rattle.xf_def_model.specs.Same.{renumbered_entry, renumbered_scope, renumbered_valued, renumbered_contents, renumbered_passed}
use Rattle.xf_def_model.proofs.RenumberEntries.{ScopeGoes, value-renumbered, text-renumbered, reads-renumbered, looks-renumbered}

each-goes : {A A' B B' : Type 0} (g : A → A') (h : B → B') (k : A → B) (k' : A' → B') → ((a : A) → k' (g a) ≡ h (k a)) → (xs : List A) → map k' (map g xs) ≡ map h (map k xs)
each-goes g h k k' e [] = refl
each-goes g h k k' e (x ∷ xs) = ap (λ y. y ∷ map k' (map g xs)) (e x) ∙ ap (λ l. h (k x) ∷ l) (each-goes g h k k' e xs)

counted : {X Y : Type 0} (g : X → Y) (p : Y → ℕ) (q : X → ℕ) → ((x : X) → p (g x) ≡ q x) → (from : ℕ) (xs : List X) → fold (λ a y. a + p y) from (map g xs) ≡ fold (λ a x. a + q x) from xs
counted g p q h from [] = refl
counted g p q h from (x ∷ xs) = ap (λ k. fold (λ a y. a + p y) (from + k) (map g xs)) (h x) ∙ counted g p q h (from + q x) xs

module _ (f : ℕ → ℕ) (same : IsRenumbering f) where
  -- ---- contents

  content-renumbered : (contents : Contents) (n : ℕ) → content_of (renumbered_contents f contents) (f n) ≡ content_of contents n
  content-renumbered contents n =
      ap (option_map (λ p. p.1)) (find-through (λ (p : ℕ × List ℕ). (f p.0, p.1)) (λ p. p.0 == f n) (λ p. p.0 == n) (λ p. same p.0 n) contents)
      ∙ by (find (λ p. p.0 == n) contents)
    where
      by : (m : Option (ℕ × List ℕ)) → option_map (λ (p : ℕ × List ℕ). p.1) (option_map (λ (p : ℕ × List ℕ). (f p.0, p.1)) m) ≡ option_map (λ (p : ℕ × List ℕ). p.1) m
      by None = refl
      by (Some p) = refl

  module _ (texts : KeepsTexts f) where
    pub holding-renumbered : (all : List Visit) (contents : Contents) → holding (map (renumbered_visit f) all) (renumbered_contents f contents) ≡ map (renumbered_visit f) (holding all contents)
    holding-renumbered all contents =
        ap (retexted (λ n. texts_given (content_of (renumbered_contents f contents) n)))
        (each-goes (renumbered_visit f) (renumbered_visit f) (with_value (content_of contents)) (with_value (content_of (renumbered_contents f contents)))
        (λ x. ap (λ c. renumbered_visit f (record x { content = value_given c x.content })) (content-renumbered contents x.number)) all)
        ∙ retexted-renumbered f same texts (λ n. texts_given (content_of (renumbered_contents f contents) n)) (λ n. texts_given (content_of contents n))
        (λ n. ap texts_given (content-renumbered contents n)) (map (with_value (content_of contents)) all)

    module _ (b : Bounds) (scope : Scope) (goes : ScopeGoes f scope) (entries : List Entry) where
      abbrev new_scope : Scope
      new_scope = renumbered_scope f scope

      abbrev new_entries : List Entry
      new_entries = map (renumbered_entry f) entries

      calculates-renumbered : calculates new_entries ≡ map (renumbered_entry f) (calculates entries)
      calculates-renumbered = filter-through (renumbered_entry f) is_calculate is_calculate (λ e. refl) entries

      computed-renumbered : filter is_computed new_entries ≡ map (renumbered_entry f) (filter is_computed entries)
      computed-renumbered = filter-through (renumbered_entry f) is_computed is_computed (λ e. refl) entries

      -- ---- rounds

      over-renumbered : (all : List Visit) → computed_over b new_scope new_entries (map (renumbered_visit f) all) ≡ renumbered_contents f (computed_over b scope entries all)
      over-renumbered all =
          ap (map (content_by b new_scope (map (renumbered_visit f) all))) calculates-renumbered
          ∙ each-goes (renumbered_entry f) (λ (p : ℕ × List ℕ). (f p.0, p.1)) (content_by b scope all) (content_by b new_scope (map (renumbered_visit f) all))
          (λ e. ap (λ t. (f e.node, fitting b.limits.text t)) (text-renumbered f same scope goes all (Some b.string) e)) (calculates entries)

      module _ (all : List Visit) where
        abbrev others : List Visit
        others = map (renumbered_visit f) all

        round-renumbered : (contents : Contents) → round b new_scope new_entries others (renumbered_contents f contents) ≡ renumbered_contents f (round b scope entries all contents)
        round-renumbered contents = ap (computed_over b new_scope new_entries) (holding-renumbered all contents) ∙ over-renumbered (holding all contents)

        rounds-renumbered : (k : ℕ) (contents : Contents) → rounds b new_scope new_entries others k (renumbered_contents f contents) ≡ renumbered_contents f (rounds b scope entries all k contents)
        rounds-renumbered zero contents = refl
        rounds-renumbered (suc k) contents = ap (rounds b new_scope new_entries others k) (round-renumbered contents) ∙ rounds-renumbered k (round b scope entries all contents)

        pub contents-renumbered : settled_contents b new_scope new_entries others ≡ renumbered_contents f (settled_contents b scope entries all)
        contents-renumbered =
            ap (λ k. rounds b new_scope new_entries others k []) (ap length calculates-renumbered ∙ length-map (calculates entries) (renumbered_entry f))
            ∙ rounds-renumbered (length (calculates entries)) []

        pub settled-renumbered : settled b new_scope new_entries others ≡ map (renumbered_visit f) (settled b scope entries all)
        settled-renumbered = ap (holding others) contents-renumbered ∙ holding-renumbered all (settled_contents b scope entries all)

      -- ---- values

      values-renumbered : (all : List Visit) → values_over b new_scope new_entries (map (renumbered_visit f) all) ≡ map (renumbered_valued f) (values_over b scope entries all)
      values-renumbered all =
          ap (map (λ (e : Entry). record { entry = e; value = value_of (Some b.string) new_scope (map (renumbered_visit f) all) e })) computed-renumbered
          ∙ each-goes (renumbered_entry f) (renumbered_valued f) (λ (e : Entry). record { entry = e; value = value_of (Some b.string) scope all e })
          (λ (e : Entry). record { entry = e; value = value_of (Some b.string) new_scope (map (renumbered_visit f) all) e })
          (λ e. ap (λ (v : Option Value). record { entry = renumbered_entry f e; value = v }) (value-renumbered f same scope goes all (Some b.string) e)) (filter is_computed entries)

      pub settled_values-renumbered : (all : List Visit) → settled_values b new_scope new_entries (map (renumbered_visit f) all) ≡ map (renumbered_valued f) (settled_values b scope entries all)
      settled_values-renumbered all = ap (values_over b new_scope new_entries) (settled-renumbered all) ∙ values-renumbered (settled b scope entries all)

      -- ---- limits

      none-kept : (v : Option Value) → is_none (option_map (renumbered_value f) v) ≡ is_none v
      none-kept None = refl
      none-kept (Some v) = refl

      one-word : (words : List Passed) (p : Bool) (word : Passed) → renumbered_passed f word ≡ word → map (renumbered_passed f) words ++ if_passed p word ≡ map (renumbered_passed f) (words ++ if_passed p word)
      one-word words true word h = ap (λ w. map (renumbered_passed f) words ++ w ∷ []) (sym h) ∙ sym (map-append (renumbered_passed f) words (word ∷ []))
      one-word words false word h = sym (map-append (renumbered_passed f) words [])

      all-words : (longs : List Passed) (p q r : Bool)
          → map (renumbered_passed f) longs ++ if_passed p text ++ if_passed q nodes ++ if_passed r all_texts ≡ map (renumbered_passed f) (longs ++ if_passed p text ++ if_passed q nodes ++ if_passed r all_texts)
      all-words longs p q r =
          ap (λ l. l ++ if_passed q nodes ++ if_passed r all_texts) (one-word longs p text refl)
          ∙ ap (λ l. l ++ if_passed r all_texts) (one-word (longs ++ if_passed p text) q nodes refl)
          ∙ one-word (longs ++ if_passed p text ++ if_passed q nodes) r all_texts refl

      module _ (all : List Visit) where
        long-renumbered : (e : Entry) → is_long b new_scope (map (renumbered_visit f) all) (renumbered_entry f e) ≡ is_long b scope all e
        long-renumbered e =
            ap (λ v. is_none v || (is_calculate e && is_none (text_of (Some b.string) new_scope (map (renumbered_visit f) all) (renumbered_entry f e)))) (value-renumbered f same scope goes all (Some b.string) e)
            ∙ ap (λ c. c || (is_calculate e && is_none (text_of (Some b.string) new_scope (map (renumbered_visit f) all) (renumbered_entry f e)))) (none-kept (value_of (Some b.string) scope all e))
            ∙ ap (λ t. is_none (value_of (Some b.string) scope all e) || (is_calculate e && is_none t)) (text-renumbered f same scope goes all (Some b.string) e)

        longs-renumbered : map (λ (e : Entry). long e.node) (filter (is_long b new_scope (map (renumbered_visit f) all)) (filter is_computed new_entries))
            ≡ map (renumbered_passed f) (map (λ (e : Entry). long e.node) (filter (is_long b scope all) (filter is_computed entries)))
        longs-renumbered =
            ap (λ es. map (λ (e : Entry). long e.node) (filter (is_long b new_scope (map (renumbered_visit f) all)) es)) computed-renumbered
            ∙ ap (map (λ (e : Entry). long e.node)) (filter-through (renumbered_entry f) (is_long b new_scope (map (renumbered_visit f) all)) (is_long b scope all) long-renumbered (filter is_computed entries))
            ∙ each-goes (renumbered_entry f) (renumbered_passed f) (λ (e : Entry). long e.node) (λ (e : Entry). long e.node) (λ e. refl) (filter (is_long b scope all) (filter is_computed entries))

        over-kept : list_any (λ e. is_over b.limits.text (text_of (Some b.string) new_scope (map (renumbered_visit f) all) e)) (calculates new_entries)
            ≡ list_any (λ e. is_over b.limits.text (text_of (Some b.string) scope all e)) (calculates entries)
        over-kept =
            ap (list_any (λ e. is_over b.limits.text (text_of (Some b.string) new_scope (map (renumbered_visit f) all) e))) calculates-renumbered
            ∙ any-through (renumbered_entry f) (λ e. is_over b.limits.text (text_of (Some b.string) new_scope (map (renumbered_visit f) all) e)) (λ e. is_over b.limits.text (text_of (Some b.string) scope all e))
            (λ e. ap (is_over b.limits.text) (text-renumbered f same scope goes all (Some b.string) e)) (calculates entries)

        passed-over_renumbered : passed_over b new_scope new_entries (map (renumbered_visit f) all) ≡ map (renumbered_passed f) (passed_over b scope entries all)
        passed-over_renumbered =
            rw (
              longs-renumbered,
              over-kept,
              counted (renumbered_visit f) (λ x. cond (not (is_root x.content)) 1 0) (λ x. cond (not (is_root x.content)) 1 0) (λ x. refl) 0 all,
              counted (renumbered_visit f) (λ x. size_of x.content) (λ x. size_of x.content) (λ x. refl) 0 all,
            )
            (all-words (map (λ (e : Entry). long e.node) (filter (is_long b scope all) (filter is_computed entries)))
            (list_any (λ e. is_over b.limits.text (text_of (Some b.string) scope all e)) (calculates entries))
            (nat_lt b.limits.nodes (fold (λ a (x : Visit). a + cond (not (is_root x.content)) 1 0) 0 all))
            (nat_lt b.limits.all (fold (λ a (x : Visit). a + size_of x.content) 0 all)))

      pub passed-renumbered : (all : List Visit) → passed b new_scope new_entries (map (renumbered_visit f) all) ≡ map (renumbered_passed f) (passed b scope entries all)
      passed-renumbered all = ap (passed_over b new_scope new_entries) (settled-renumbered all) ∙ passed-over_renumbered (settled b scope entries all)

-- ---- how much is read and looked at together

module _ (f : ℕ → ℕ) (same : IsRenumbering f) (scope : Scope) (goes : ScopeGoes f scope) (all : List Visit) where
  size-renumbered : (e : Entry) → asked_size (renumbered_scope f scope) (map (renumbered_visit f) all) (renumbered_entry f e) ≡ asked_size scope all e
  size-renumbered e =
      rw (reads-renumbered f same scope goes all e, looks-renumbered f same scope goes all e, length-map (reads_of scope all e) f, length-map (looks_of scope all e) f) refl

  pub edges-renumbered : (entries : List Entry) → edge_count (renumbered_scope f scope) (map (renumbered_visit f) all) (map (renumbered_entry f) entries) ≡ edge_count scope all entries
  edges-renumbered entries =
      ap (λ es. fold (λ a (e : Entry). a + asked_size (renumbered_scope f scope) (map (renumbered_visit f) all) e) 0 es) (filter-through (renumbered_entry f) is_computed is_computed (λ e. refl) entries)
      ∙ counted (renumbered_entry f) (asked_size (renumbered_scope f scope) (map (renumbered_visit f) all)) (asked_size scope all) size-renumbered 0 (filter is_computed entries)
