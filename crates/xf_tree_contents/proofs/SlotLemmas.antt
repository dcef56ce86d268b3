-- What the entries of the slab stand for, key by key, and what stays as names come in.
use Rattle.std.proofs.Common.{◌≡◌, ℕ, false, ◌+◌, ◌<◌, ◌≤◌, List, [], ◌∷◌, map, cond, Option, Some, None, option_map, slice_get, min, refl, sym, ap, ◌∙◌, subst, inl, inr, arith}
use Rattle.std.specs.Prelude.{is_some, fold, IsSome}
use Rattle.std.proofs.Math.ListN.{get_or-map}
use Rattle.std.proofs.Math.Nat.{min-le_right}
use Rattle.slab.specs.Slab.{Slab, get, slab_len, Updates, HasRoomFor, with_value as with_entry}
use Rattle.slab.proofs.SlabLemmas.{Updates-with_value}
use Rattle.xf_def_forest.specs.declared.content.Content.{Content}
use Rattle.xf_def_forest.specs.declared.content.Name.{Name}
use Rattle.xf_def_forest.specs.declared.content.Kind.{Kind}
use Rattle.xf_def_forest.specs.declared.content.Kind.TheVariants as kind
use Rattle.xf_def_forest.specs.Forest.{name_in}
use Rattle.xf_def_forest.specs.Texts.{with_value}
use Rattle.xf_def_forest.specs.WellFormed.{have_same_name}
use Rattle.xf_tree_contents.specs.declared.names.Known.{Known}
use Rattle.xf_tree_contents.specs.declared.slots.Entry.{Entry}
use Rattle.xf_tree_contents.specs.Names.{NameTable, KeepsNames, named}
use Rattle.xf_tree_contents.specs.Keys.{content_in}
use Rattle.xf_tree_contents.specs.Slot.{Slot}
use Rattle.xf_tree_contents.specs.Slots.{valued_slot, number_by, name_number, content_by, slot_of, slots_of, HasName, IsNamed, AreNamed}
use Rattle.xf_tree_contents.proofs.FreeLemmas.{same-key}

pub slots-get : (slab : Slab Entry) (table : NameTable) (key : ℕ) → get (slots_of slab table) key ≡ option_map (slot_of table.names) (get slab key)
slots-get slab table key = get_or-map (option_map (slot_of table.names)) slab.slots key None

-- what a key stands for, where its entry is told
pub slots-at : (slab : Slab Entry) (table : NameTable) (seen : Slab Slot) (key : ℕ) (entry : Option Entry) → slots_of slab table ≡ seen → entry ≡ get slab key
    → get seen key ≡ option_map (slot_of table.names) entry
slots-at slab table seen key entry view is = ap (λ s. get s key) (sym view) ∙ slots-get slab table key ∙ ap (option_map (slot_of table.names)) (sym is)

some-count : (f : Entry → Slot) (n : ℕ) (xs : List (Option Entry)) → fold (λ a x. a + cond (is_some x) 1 0) n (map (option_map f) xs) ≡ fold (λ a x. a + cond (is_some x) 1 0) n xs
some-count f n [] = refl
some-count f n (None ∷ xs) = some-count f (n + 0) xs
some-count f n (Some x ∷ xs) = some-count f (n + 1) xs

pub slots-len : (slab : Slab Entry) (table : NameTable) → slab_len (slots_of slab table) ≡ slab_len slab
slots-len slab table = some-count (slot_of table.names) 0 slab.slots

kept-content : (k : Kind) (old new : Option Known) (text : List ℕ) → ((x : Known) → old ≡ Some x → new ≡ Some x) → HasName k old → content_by k new text ≡ content_by k old text
kept-content kind.Root old new text keeps has = refl
kept-content kind.Text old new text keeps has = refl
kept-content kind.Element None new text keeps has = absurd (let h : ⊥ = cc in h)
kept-content kind.Element (Some x) new text keeps has = ap (λ o. content_by kind.Element o text) (keeps x refl)
kept-content kind.Attribute None new text keeps has = absurd (let h : ⊥ = cc in h)
kept-content kind.Attribute (Some x) new text keeps has = ap (λ o. content_by kind.Attribute o text) (keeps x refl)

kept-entry : (old new : List Known) (e : Entry) → KeepsNames old new → IsNamed old (Some e) → slot_of new e ≡ slot_of old e
kept-entry old new e keeps named =
    ap (λ (c : Content). record { number = e.number; owner = e.owner; content = c }) (kept-content e.kind (slice_get old e.name) (slice_get new e.name) e.text (λ x is. keeps e.name x is) named)

-- what has its name keeps what it is
pub kept-slot : (old new : List Known) (entry : Option Entry) → KeepsNames old new → IsNamed old entry → option_map (slot_of new) entry ≡ option_map (slot_of old) entry
kept-slot old new None keeps named = refl
kept-slot old new (Some e) keeps named = ap Some (kept-entry old new e keeps named)

kept-name : (k : Kind) (old new : Option Known) → ((x : Known) → old ≡ Some x → new ≡ Some x) → HasName k old → HasName k new
kept-name kind.Root old new keeps has = tt
kept-name kind.Text old new keeps has = tt
kept-name kind.Element None new keeps has = absurd (let h : ⊥ = cc in h)
kept-name kind.Element (Some x) new keeps has = subst IsSome (sym (keeps x refl)) has
kept-name kind.Attribute None new keeps has = absurd (let h : ⊥ = cc in h)
kept-name kind.Attribute (Some x) new keeps has = subst IsSome (sym (keeps x refl)) has

pub kept-named : (old new : List Known) (entry : Option Entry) → KeepsNames old new → IsNamed old entry → IsNamed new entry
kept-named old new None keeps named = tt
kept-named old new (Some e) keeps named = kept-name e.kind (slice_get old e.name) (slice_get new e.name) (λ x is. keeps e.name x is) named

pub same-names : (names : List Known) → KeepsNames names names
same-names names n k is = is

module _ (slab slab2 : Slab Entry) (old new : NameTable) (key : ℕ) (entry : Option Entry) (keeps : KeepsNames old.names new.names) (named : AreNamed slab old) (up : Updates slab slab2 key entry) where
  -- an entry that changes, with names that come in
  pub slots-updated : Updates (slots_of slab old) (slots_of slab2 new) key (option_map (slot_of new.names) entry)
  slots-updated = record {
    changed = slots-get slab2 new key ∙ ap (option_map (slot_of new.names)) up.changed;
    others = λ other ne. slots-get slab2 new other ∙ ap (option_map (slot_of new.names)) (up.others other ne) ∙ kept-slot old.names new.names (get slab other) keeps (named other) ∙ sym (slots-get slab old other);
  }

  pub named-updated : IsNamed new.names entry → AreNamed slab2 new
  named-updated is other = elim (same-key other key) [
    | inl ne ↦ subst (IsNamed new.names) (sym (up.others other ne)) (kept-named old.names new.names (get slab other) keeps (named other))
    | inr e ↦ subst (IsNamed new.names) (sym (ap (get slab2) e ∙ up.changed)) is
  ]

  -- the same, where what the key stands for is told
  pub seen-updated : (seen : Slab Slot) (slot : Option Slot) → slots_of slab old ≡ seen → option_map (slot_of new.names) entry ≡ slot → Updates seen (slots_of slab2 new) key slot
  seen-updated seen slot view is =
      let first = subst (λ s. Updates s (slots_of slab2 new) key (option_map (slot_of new.names) entry)) view slots-updated in
      subst (λ o. Updates seen (slots_of slab2 new) key o) is first

name-by : (names : List Known) (k : Kind) (number : ℕ) (text : List ℕ) → name_in (content_by k (slice_get names number) text) ≡ named names (number_by k number)
name-by names kind.Root number text = refl
name-by names kind.Text number text = refl
name-by names kind.Element number text = known (slice_get names number)
  where
    known : (o : Option Known) → name_in (content_by kind.Element o text) ≡ option_map (λ k. k.name) o
    known None = refl
    known (Some k) = refl
name-by names kind.Attribute number text = known (slice_get names number)
  where
    known : (o : Option Known) → name_in (content_by kind.Attribute o text) ≡ option_map (λ k. k.name) o
    known None = refl
    known (Some k) = refl

name-of : (names : List Known) (entry : Option Entry) → name_in (content_in (option_map (slot_of names) entry)) ≡ named names (name_number entry)
name-of names None = refl
name-of names (Some e) = name-by names e.kind e.name e.text

-- the name of what a key stands for, by the number that its entry has
pub name-at : (slab : Slab Entry) (table : NameTable) (seen : Slab Slot) (key : ℕ) (number : Option ℕ) → slots_of slab table ≡ seen → number ≡ name_number (get slab key)
    → named table.names number ≡ name_in (content_in (get seen key))
name-at slab table seen key number view is =
    ap (named table.names) is ∙ sym (ap (λ o. name_in (content_in o)) (slots-at slab table seen key (get slab key) view refl) ∙ name-of table.names (get slab key))

pub no-name : (name : Option Name) → false ≡ have_same_name name None
no-name None = refl
no-name (Some name) = refl

-- room in the slab is room for names
pub room-there : (slab : Slab Entry) (table : NameTable) (seen : Slab Slot) → slots_of slab table ≡ seen → HasRoomFor seen 1 → 0 < table.room
room-there slab table seen view room =
    let len = slots-len slab table in
    let here : slab_len (slots_of slab table) + 1 ≤ min slab.capacity (slab_len slab + table.room) = subst (λ (s : Slab Slot). slab_len s + 1 ≤ s.capacity) (sym view) room in
    omega (arith, min-le_right slab.capacity (slab_len slab + table.room))

pub counted : (slab slab2 : Slab Entry) (old new : NameTable) (seen : Slab Slot) → slots_of slab old ≡ seen → slab_len slab2 ≡ slab_len slab + 1 → slab_len (slots_of slab2 new) ≡ slab_len seen + 1
counted slab slab2 old new seen view more = slots-len slab2 new ∙ more ∙ ap (λ n. n + 1) (sym (slots-len slab old) ∙ ap slab_len view)

valued-attribute : (known : Option Known) (text other : List ℕ) → content_by kind.Attribute known other ≡ with_value other (content_by kind.Attribute known text)
valued-attribute None text other = refl
valued-attribute (Some k) text other = refl

valued-other : (k : Kind) (known : Option Known) (text other : List ℕ) → (k ≡ kind.Attribute → ⊥) → content_by k known text ≡ with_value other (content_by k known text)
valued-other kind.Root known text other none = refl
valued-other kind.Text known text other none = refl
valued-other kind.Element None text other none = refl
valued-other kind.Element (Some k) text other none = refl
valued-other kind.Attribute known text other none = absurd (none refl)

-- an attribute with another text
pub valued-slot : (names : List Known) (e : Entry) (text : List ℕ) → e.kind ≡ kind.Attribute → slot_of names (record { number = e.number; owner = e.owner; text = text; name = e.name; kind = e.kind }) ≡ valued_slot text (slot_of names e)
valued-slot names e text is =
    let known = slice_get names e.name in
    let content = ap (λ k. content_by k known text) is ∙ valued-attribute known e.text text ∙ ap (λ k. with_value text (content_by k known e.text)) (sym is) in
    ap (λ (c : Content). record { number = e.number; owner = e.owner; content = c }) content

-- what is no attribute stays
pub unvalued-slot : (names : List Known) (e : Entry) (text : List ℕ) → (e.kind ≡ kind.Attribute → ⊥) → slot_of names e ≡ valued_slot text (slot_of names e)
unvalued-slot names e text none =
    ap (λ (c : Content). record { number = e.number; owner = e.owner; content = c }) (valued-other e.kind (slice_get names e.name) e.text text none)

module _ (slab : Slab Entry) (table : NameTable) (seen : Slab Slot) (key : ℕ) (view : slots_of slab table ≡ seen) (change : Slot → Slot) where
  -- an entry that is written anew
  pub written : (e e2 : Entry) → AreNamed slab table → Some e ≡ get slab key → slot_of table.names e2 ≡ change (slot_of table.names e)
      → Updates seen (slots_of (with_entry slab key e2) table) key (option_map change (get seen key))
  written e e2 named is changes =
      let here = slots-at slab table seen key (Some e) view is in
      seen-updated slab (with_entry slab key e2) table table key (Some e2) (same-names table.names) named (Updates-with_value slab key e2 (subst IsSome is refl)) seen _ view
      (ap Some changes ∙ sym (ap (option_map change) here))

  -- where there is none, nothing changes
  pub absent : None ≡ get slab key → Updates seen (slots_of slab table) key (option_map change (get seen key))
  absent is =
      let here = slots-at slab table seen key None view is in
      record { changed = ap (λ s. get s key) view ∙ here ∙ sym (ap (option_map change) here); others = λ other ne. ap (λ s. get s other) view }

-- room that is given back changes nothing else
pub room-aside : (slab : Slab Entry) (old new : NameTable) (seen : Slab Slot) → slots_of slab old ≡ seen → new.names ≡ old.names → slots_of slab new ≡ record seen { capacity = (slots_of slab new).capacity }
room-aside slab old new seen view same =
    let first : slots_of slab new ≡ record (slots_of slab old) { capacity = (slots_of slab new).capacity } =
    ap (λ l. record { slots = map (option_map (slot_of l)) slab.slots; vacant_key = slab.vacant_key; capacity = (slots_of slab new).capacity }) same in
    first ∙ ap (λ (s : Slab Slot). record s { capacity = (slots_of slab new).capacity }) view
