-- A pass over the repeats, repeat by repeat; the order in which repeats were noted in it is nothing.
use Rattle.std.proofs.Common.{◌≡◌, ℕ, Bool, true, false, ◌||◌, ◌&&◌, List, [], ◌∷◌, Option, Some, None, option_map, refl, sym, ap, ◌∙◌, subst}
use Rattle.std.specs.Prelude.{if◌then◌else◌, ◌==◌}
use Rattle.std.specs.List.{list_any}
use Rattle.xf_def_forest.specs.Visit as visit
use Rattle.xf_graph.specs.Edges as graph
use Rattle.xf_graph.proofs.HasLemmas.{==-turned}
use Rattle.xf_def_xpath.specs.Setting.{◌>>=◌}
use Rattle.xf_def_ui.specs.Around.{Around}
use Rattle.xf_def_ui.specs.Elements.{ancestors}
use Rattle.xf_def_ui.specs.Index.{Index, Pass, begins_anew, index_at, index_of, pass_over, passed, rows_now, ruled, with_index}
use Rattle.xf_def_ui.specs.Interface.{Interface}
use Rattle.xf_repeat.specs.Passes.{IsAt, IsAtPass, stepped}

has-both : (ns : List ℕ) (n : ℕ) → graph.has ns n ≡ visit.has n ns
has-both [] n = refl
has-both (m ∷ ms) n = ap (λ b. b || graph.has ms n) (==-turned m n) ∙ ap (λ b. (n == m) || b) (has-both ms n)

any-same : (p q : ℕ → Bool) → ((n : ℕ) → p n ≡ q n) → (ns : List ℕ) → list_any p ns ≡ list_any q ns
any-same p q h [] = refl
any-same p q h (n ∷ ns) = ap (λ b. b || list_any p ns) (h n) ∙ ap (λ b. q n || b) (any-same p q h ns)

module _ (f : Interface) (a : Around) (added : List ℕ) where
  -- a pass, by its first repeat
  pass-first : (s : Pass) (r : ℕ) (rs : List ℕ) → pass_over f a added s (r ∷ rs) ≡ (stepped f a added r s >>= λ t. pass_over f a added t rs)
  pass-first s r rs = by (rows_now f a s.indexes r)
    where
      next : List ℕ → Pass
      next rows = passed f r rows s (ruled (begins_anew f s r) rows (index_of f s.indexes r) added)

      by : (o : Option (List ℕ)) → (o >>= λ rows. pass_over f a added (next rows) rs) ≡ ((o >>= λ rows. Some (next rows)) >>= λ t. pass_over f a added t rs)
      by None = refl
      by (Some rows) = refl

  abbrev pub indexes_after : Pass → List ℕ → Option (List Index)
  indexes_after s rs = option_map (λ (t : Pass). t.indexes) (pass_over f a added s rs)

  abbrev at : List Index → List ℕ → Pass
  at indexes restarted = record { indexes = indexes; restarted = restarted }

  step-noted : Bool → ℕ → List ℕ → List ℕ
  step-noted b r ns = if b then r ∷ ns else ns

  noted-alike : (b : Bool) (r : ℕ) (ms ns : List ℕ) → ((n : ℕ) → visit.has n ms ≡ visit.has n ns) → (n : ℕ) → visit.has n (if b then r ∷ ms else ms) ≡ visit.has n (if b then r ∷ ns else ns)
  noted-alike true r ms ns h n = ap (λ b. (n == r) || b) (h n)
  noted-alike false r ms ns h n = h n

  anew-alike : (indexes : List Index) (ms ns : List ℕ) → ((n : ℕ) → visit.has n ms ≡ visit.has n ns) → (r : ℕ) → begins_anew f (at indexes ms) r ≡ begins_anew f (at indexes ns) r
  anew-alike indexes ms ns h r = any-same (λ n. visit.has n ms) (λ n. visit.has n ns) h (ancestors f r)

  -- repeats that are noted in another order
  alike : (rs : List ℕ) (indexes : List Index) (ms ns : List ℕ) → ((n : ℕ) → visit.has n ms ≡ visit.has n ns) → indexes_after (at indexes ms) rs ≡ indexes_after (at indexes ns) rs
  alike [] indexes ms ns h = refl
  alike (r ∷ rs) indexes ms ns h = by (λ i js ks. alike rs i js ks) (rows_now f a indexes r)
    where
      new : List ℕ → List ℕ → ℕ × Bool
      new noted rows = ruled (begins_anew f (at indexes noted) r) rows (index_of f indexes r) added

      same : (rows : List ℕ) → new ms rows ≡ new ns rows
      same rows = ap (λ b. ruled b rows (index_of f indexes r) added) (anew-alike indexes ms ns h r)

      next : List ℕ → List ℕ → Pass
      next noted rows = passed f r rows (at indexes noted) (new noted rows)

      Again : Type 0
      Again = (i : List Index) (js ks : List ℕ) → ((n : ℕ) → visit.has n js ≡ visit.has n ks) → indexes_after (at i js) rs ≡ indexes_after (at i ks) rs

      one : Again → (rows : List ℕ) → indexes_after (next ms rows) rs ≡ indexes_after (next ns rows) rs
      one again rows =
          ap (λ k. indexes_after (passed f r rows (at indexes ms) k) rs) (same rows)
          ∙ again (with_index f r (index_at rows (new ns rows).0) indexes) (if (new ns rows).1 then r ∷ ms else ms) (if (new ns rows).1 then r ∷ ns else ns)
          (noted-alike (new ns rows).1 r ms ns h)

      by : Again → (o : Option (List ℕ)) → option_map (λ (t : Pass). t.indexes) (o >>= λ rows. pass_over f a added (next ms rows) rs) ≡ option_map (λ (t : Pass). t.indexes) (o >>= λ rows. pass_over f a added (next ns rows) rs)
      by again None = refl
      by again (Some rows) = one again rows

  -- from where code has come so far
  from-at : (indexes : List Index) (restarted : List ℕ) (s : Pass) → IsAt indexes restarted s → (rs : List ℕ) → indexes_after s rs ≡ indexes_after (at indexes restarted) rs
  from-at indexes restarted s is rs =
      ap (λ i. indexes_after (at i s.restarted) rs) is.indexed
      ∙ alike rs indexes s.restarted restarted (λ n. sym (is.noted n) ∙ has-both restarted n)

  -- one repeat more
  pub pass-more : (s : Pass) (r : ℕ) (rs : List ℕ) (indexes : List Index) (restarted : List ℕ) → IsAtPass indexes restarted (stepped f a added r s)
      → indexes_after s (r ∷ rs) ≡ indexes_after (at indexes restarted) rs
  pass-more s r rs indexes restarted is = ap (option_map (λ (t : Pass). t.indexes)) (pass-first s r rs) ∙ by (stepped f a added r s) is
    where
      by : (o : Option Pass) → IsAtPass indexes restarted o → option_map (λ (t : Pass). t.indexes) (o >>= λ t. pass_over f a added t rs) ≡ indexes_after (at indexes restarted) rs
      by None i = elim i [ ]
      by (Some t) i = from-at indexes restarted t i rs

  -- its rows are too long
  pub pass-long : (s : Pass) (r : ℕ) (rs : List ℕ) → stepped f a added r s ≡ None → indexes_after s (r ∷ rs) ≡ None
  pass-long s r rs h = ap (option_map (λ (t : Pass). t.indexes)) (pass-first s r rs) ∙ ap (λ o. option_map (λ (t : Pass). t.indexes) (o >>= λ t. pass_over f a added t rs)) h

  -- ---- one repeat

  pub step-long : (s : Pass) (r : ℕ) → rows_now f a s.indexes r ≡ None → stepped f a added r s ≡ None
  step-long s r h = ap (λ o. o >>= λ rows. Some (passed f r rows s (ruled (begins_anew f s r) rows (index_of f s.indexes r) added))) h

  -- it has its new index, and was noted where those inside start anew
  pub step-taken : (s : Pass) (r : ℕ) (rows : List ℕ) (anew : Bool) (old : Index) (new : ℕ × Bool) (indexes : List Index) (restarted : List ℕ)
      → rows_now f a s.indexes r ≡ Some rows → anew ≡ list_any (graph.has s.restarted) (ancestors f r) → old ≡ index_of f s.indexes r → new ≡ ruled anew rows old added
      → indexes ≡ with_index f r (index_at rows new.0) s.indexes → ((n : ℕ) → graph.has restarted n ≡ ((new.1 && (r == n)) || graph.has s.restarted n))
      → IsAtPass indexes restarted (stepped f a added r s)
  step-taken s r rows anew old new indexes restarted h anew-is old-is new-is put noted =
      subst (IsAtPass indexes restarted) (sym whole) (record { indexed = sym put; noted = λ n. noted n ∙ noted-in new.1 n })
    where
      begins : anew ≡ begins_anew f s r
      begins = anew-is ∙ any-same (graph.has s.restarted) (λ n. visit.has n s.restarted) (has-both s.restarted) (ancestors f r)

      whole : stepped f a added r s ≡ Some (passed f r rows s new)
      whole =
          ap (λ o. o >>= λ rows. Some (passed f r rows s (ruled (begins_anew f s r) rows (index_of f s.indexes r) added))) h
          ∙ ap (λ b. Some (passed f r rows s (ruled b rows (index_of f s.indexes r) added))) (sym begins)
          ∙ ap (λ i. Some (passed f r rows s (ruled anew rows i added))) (sym old-is)
          ∙ ap (λ k. Some (passed f r rows s k)) (sym new-is)

      noted-in : (b : Bool) (n : ℕ) → ((b && (r == n)) || graph.has s.restarted n) ≡ visit.has n (if b then r ∷ s.restarted else s.restarted)
      noted-in true n = ap (λ t. t || graph.has s.restarted n) (==-turned r n) ∙ ap (λ t. (n == r) || t) (has-both s.restarted n)
      noted-in false n = has-both s.restarted n
