-- What is kept after a rebuild, a recalculation and a commit, by what came before.
use Rattle.std.proofs.Common.{◌≡◌, ℕ, true, false, cond, List, [], ◌∷◌, map, filter, Option, None, take, length, refl, sym, ap, ◌∙◌}
use Rattle.std.specs.Prelude.{Bool, unwrap_or}
use Rattle.xf_def_model.specs.Applied as applied
use Rattle.xf_def_model.specs.Entries.{is_computed}
use Rattle.xf_def_model.specs.Settled.{Valued}
use Rattle.xf_binds.specs.declared.web.Asks.{Asks}
use Rattle.xf_binds.specs.declared.kept.Since.{Since}
use Rattle.xf_binds.specs.declared.kept.Since.TheVariants.{Nothing, Told, Built, ToldBuilt, BuiltTold, Past}
use Rattle.xf_binds.specs.Held.{Held, entries_in, held_by}
use Rattle.xf_binds.specs.Kept.{Entered, Kept, Was, committed, entries_of, recalculated, stood_of, told_of, valued_in, valued_of}
use Rattle.xf_binds.specs.Since.{built_more, kept_of, present_in, stood_since, told_more, was_of}
use Rattle.xf_binds.proofs.Tellings.{entries-told}

module _ (present : Entered) (stood : Option (List Held)) (invalid : List ℕ) (checked : Option (List ℕ)) (texts lists late_texts late_lists : List ℕ) (w : Was) where
  abbrev kept : Since → Kept
  kept since = kept_of present stood invalid checked texts lists late_texts late_lists since w

  pub rebuilt-is : (now : Entered) (since : Since) → kept (built_more now since) ≡ record (kept since) { entries = entries_in now.held; asks = now.asks }
  rebuilt-is now Nothing = refl
  rebuilt-is now (Told truths) = refl
  rebuilt-is now (Built old) = refl
  rebuilt-is now (ToldBuilt truths old) = refl
  rebuilt-is now (BuiltTold old) = refl
  rebuilt-is now (Past old past) = refl

  told-entries : (now : Entered) (truths : List (Option Bool)) → kept_of present stood invalid checked texts lists [] [] (BuiltTold (told_of truths now)) w
      ≡ record { entries = entries_in now.held; asks = now.asks; stood = valued_in (held_by (entries_in now.held) truths); invalid = unwrap_or checked invalid; texts = []; lists = []; before = w }
  told-entries now truths = ap (λ es. record { entries = es; asks = now.asks; stood = valued_in (held_by (entries_in now.held) truths); invalid = unwrap_or checked invalid; texts = []; lists = []; before = w }) (entries-told (entries_in now.held) truths)

  pub told-is : (truths : List (Option Bool)) (since : Since) → kept_of present stood invalid checked texts lists [] [] (told_more truths since) w ≡ recalculated truths (kept since)
  told-is truths Nothing = refl
  told-is truths (Told old) = refl
  told-is truths (Built now) = told-entries now truths
  told-is truths (ToldBuilt old now) = told-entries now truths
  told-is truths (BuiltTold now) = told-entries now truths
  told-is truths (Past now past) = told-entries now truths

-- ---- the present entries stand

entries-computed : (held : List Held) → entries_of (valued_in held) ≡ filter is_computed (entries_in held)
entries-computed [] = refl
entries-computed (h ∷ hs) = by (is_computed h.entry) (entries-computed hs)
  where
    by : (b : Bool) → entries_of (valued_in hs) ≡ filter is_computed (entries_in hs)
        → entries_of (map valued_of (cond b (h ∷ filter (λ x. is_computed x.entry) hs) (filter (λ x. is_computed x.entry) hs))) ≡ cond b (h.entry ∷ filter is_computed (entries_in hs)) (filter is_computed (entries_in hs))
    by true rest = ap (λ l. h.entry ∷ l) rest
    by false rest = rest

pub settled-since : (k : Kept) (present : Entered) (stood : Option (List Held)) (since : Since) → valued_in (stood_since present.held stood since) ≡ k.stood → entries_in (present_in present since).held ≡ k.entries
    → entries_in (stood_since present.held stood since) ≡ entries_in (present_in present since).held → entries_of k.stood ≡ filter is_computed k.entries
settled-since k present stood since view entries same =
    ap entries_of (sym view) ∙ entries-computed (stood_since present.held stood since) ∙ ap (filter is_computed) (same ∙ entries)

-- ---- a commit

take-whole : (ns : List ℕ) → take (length ns) ns ≡ ns
take-whole [] = refl
take-whole (n ∷ ns) = ap (λ l. n ∷ l) (take-whole ns)

pub committed-is : (old : Kept) (present : Entered) (stood : Option (List Held)) (invalid texts lists late_texts late_lists : List ℕ) (texts_kept lists_kept : ℕ) →
    entries_in present.held ≡ old.entries → present.asks ≡ old.asks → valued_in (stood_of present.held stood) ≡ old.stood → invalid ≡ old.invalid → texts ≡ old.texts → lists ≡ old.lists → texts_kept ≡ length texts → lists_kept ≡ length lists
    → kept_of present stood invalid None texts lists late_texts late_lists Nothing (was_of present stood invalid texts texts_kept lists lists_kept) ≡ committed old
committed-is old present stood invalid texts lists late_texts late_lists texts_kept lists_kept e a s i t l m n =
    ap (λ k. whole (entries_in present.held) present.asks (valued_in (stood_of present.held stood)) invalid texts lists k (take lists_kept lists)) (ap (λ k. take k texts) m ∙ take-whole texts)
    ∙ ap (λ k. whole (entries_in present.held) present.asks (valued_in (stood_of present.held stood)) invalid texts lists texts k) (ap (λ k. take k lists) n ∙ take-whole lists)
    ∙ ap (λ k. whole k present.asks (valued_in (stood_of present.held stood)) invalid texts lists texts lists) e
    ∙ ap (λ k. whole old.entries k (valued_in (stood_of present.held stood)) invalid texts lists texts lists) a
    ∙ ap (λ k. whole old.entries old.asks k invalid texts lists texts lists) s
    ∙ ap (λ k. whole old.entries old.asks old.stood k texts lists texts lists) i
    ∙ ap (λ k. whole old.entries old.asks old.stood old.invalid k lists k lists) t
    ∙ ap (λ k. whole old.entries old.asks old.stood old.invalid old.texts k old.texts k) l
  where
    whole : List applied.Entry → List Asks → List Valued → List ℕ → List ℕ → List ℕ → List ℕ → List ℕ → Kept
    whole entries asks stood invalid texts lists was_texts was_lists = record {
      entries = entries;
      asks = asks;
      stood = stood;
      invalid = invalid;
      texts = texts;
      lists = lists;
      before = record { entries = entries; asks = asks; stood = stood; invalid = invalid; texts = was_texts; lists = was_lists };
    }
