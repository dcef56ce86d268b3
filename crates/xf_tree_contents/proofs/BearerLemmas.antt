-- Elements stay noted by their local names, as what the keys stand for changes.
use Rattle.std.proofs.Common.{◌≡◌, ℕ, true, List, Option, Some, None, option_map, refl, sym, ap, ◌∙◌, subst, inl, inr}
use Rattle.std.specs.Prelude.{IsSome}
use Rattle.slab.specs.Slab.{Slab, get, Updates, with_value as with_entry}
use Rattle.slab.proofs.SlabLemmas.{Updates-with_value}
use Rattle.xf_def_forest.specs.declared.content.Content.{Content}
use Rattle.xf_def_forest.specs.declared.content.Content.TheVariants.{Root, Element, Attribute, Text}
use Rattle.xf_def_forest.specs.declared.content.Kind.{Kind}
use Rattle.xf_def_forest.specs.declared.content.Kind.TheVariants as kind
use Rattle.xf_tree_contents.specs.declared.names.Known.{Known}
use Rattle.xf_tree_contents.specs.declared.slots.Entry.{Entry}
use Rattle.xf_tree_contents.specs.declared.bearers.Bearers.{Bearers}
use Rattle.xf_tree_contents.specs.Names.{NameTable, KeepsNames}
use Rattle.xf_tree_contents.specs.Slots.{content_by, slot_of, slots_of, IsNamed, AreHeld}
use Rattle.xf_tree_contents.specs.Bearers.{may_bear, IsNoted}
use Rattle.xf_tree_contents.specs.Keys.{content_in}
use Rattle.xf_tree_contents.proofs.FreeLemmas.{same-key}
use Rattle.xf_tree_contents.proofs.SlotLemmas.{same-names, slots-get, slots-updated, named-updated}

-- what may have a name may have it still
abbrev pub MayStill : Bearers → Bearers → Type 0
MayStill old new = (name : List ℕ) (key : ℕ) → may_bear old name key ≡ true → may_bear new name key ≡ true

noted-more : (old new : Bearers) (content : Content) (key : ℕ) → MayStill old new → IsNoted old content key → IsNoted new content key
noted-more old new Root key more is = tt
noted-more old new (Element name) key more is = more name.meaning.local key is
noted-more old new (Attribute name text) key more is = tt
noted-more old new (Text text) key more is = tt

-- a text does not tell
noted-text : (bearers : Bearers) (k : Kind) (known : Option Known) (text other : List ℕ) (key : ℕ) → IsNoted bearers (content_by k known text) key → IsNoted bearers (content_by k known other) key
noted-text bearers kind.Root known text other key is = tt
noted-text bearers kind.Text known text other key is = tt
noted-text bearers kind.Element None text other key is = tt
noted-text bearers kind.Element (Some k) text other key is = is
noted-text bearers kind.Attribute None text other key is = tt
noted-text bearers kind.Attribute (Some k) text other key is = tt

module _ (slab slab2 : Slab Entry) (old new : NameTable) (bearers bearers2 : Bearers) (key : ℕ) (entry : Option Entry) (keeps : KeepsNames old.names new.names) (held : AreHeld slab old bearers) (more : MayStill bearers bearers2) (up : Updates slab slab2 key entry) where
  -- an entry that changes
  pub held-updated : IsNamed new.names entry → IsNoted bearers2 (content_in (option_map (slot_of new.names) entry)) key → AreHeld slab2 new bearers2
  held-updated named noted =
      let seen = slots-updated slab slab2 old new key entry keeps held.named up in
      record {
        named = named-updated slab slab2 old new key entry keeps held.named up named;
        noted = λ other. elim (same-key other key) [
          | inl ne ↦ subst (λ o. IsNoted bearers2 (content_in o) other) (sym (seen.others other ne)) (noted-more bearers bearers2 (content_in (get (slots_of slab old) other)) other more (held.noted other))
          | inr e ↦ subst (λ k. IsNoted bearers2 (content_in (get (slots_of slab2 new) k)) k) (sym e) (subst (λ o. IsNoted bearers2 (content_in o) key) (sym seen.changed) noted)
        ];
      }

module _ (slab : Slab Entry) (table : NameTable) (bearers : Bearers) (key : ℕ) (held : AreHeld slab table bearers) where
  -- an entry that keeps its kind and its name
  pub held-written : (e : Entry) (number owner : ℕ) (text : List ℕ) → Some e ≡ get slab key
      → AreHeld (with_entry slab key (record { number = number; owner = owner; text = text; name = e.name; kind = e.kind })) table bearers
  held-written e number owner text is =
      let e2 : Entry = record { number = number; owner = owner; text = text; name = e.name; kind = e.kind } in
      let here : IsNoted bearers (slot_of table.names e).content key = subst (λ o. IsNoted bearers (content_in o) key) (slots-get slab table key ∙ ap (option_map (slot_of table.names)) (sym is)) (held.noted key) in
      held-updated slab (with_entry slab key e2) table table bearers bearers key (Some e2) (same-names table.names) held (λ name k h. h) (Updates-with_value slab key e2 (subst IsSome is refl))
      (subst (IsNamed table.names) (sym is) (held.named key))
      (noted-text bearers e.kind _ e.text text key here)
