-- Attributes whose names rise, and a sorted map of them, as members.
use Rattle.std.proofs.Common.{◌≡◌, ℕ, ◌+◌, ◌<◌, List, [], ◌∷◌, ◌++◌, length, get_or, take, true, Ordering, Less, Equal, Greater, Bor, refl, sym, ap, ◌∙◌, append_assoc, append-nil}
use Rattle.std.specs.Cmp.Lexicographic.{slice_cmp}
use Rattle.std.specs.Ordering.{nat_cmp, is_lt, match_ordering, ordering_reverse}
use Rattle.std.specs.BTreeMap.{insert_entry}
use Rattle.std.proofs.lemmas.Cmp.{nat_list_cmp_total}
use Rattle.std.proofs.lemmas.Bool.{and_parts}
use Rattle.std.proofs.lemmas.List.{take_more}
use Rattle.json.specs.Token.{key, string, end_object}
use Rattle.json.specs.Tree.{members_tokens}
use Rattle.serde_json.specs.Data.{string as string_data, Members, no_members, member, put}
use Rattle.serde_json.specs.Written.{members_outline}
use Rattle.xf_name.specs.declared.lit.Pair.{Pair}
use Rattle.xf_json.specs.Printed.{with_pairs, rise_from, are_rising}
use Rattle.xf_json.specs.Tokens.{tokens_in_order, tokens_of_pairs, members_of_refs}

-- the attributes as members in their own order
abbrev pub in_order : List Pair → Members
in_order [] = no_members
in_order (p ∷ ps) = member p.name (string_data p.text) (in_order ps)

-- every name is below this one
abbrev AllBelow : List ℕ → List Pair → Type 0
AllBelow name [] = Unit {0}
AllBelow name (p ∷ ps) = (slice_cmp nat_cmp name p.name ≡ Greater) × AllBelow name ps

put_last : (done : List Pair) (p : Pair) → AllBelow p.name done → put p.name (string_data p.text) (in_order done) ≡ in_order (done ++ p ∷ [])
put_last [] p below = refl
put_last (d ∷ ds) p below = rw below.0 (ap (member d.name (string_data d.text)) (put_last ds p below.1))

-- ---- names that rise

turned : (a b : List ℕ) → slice_cmp nat_cmp a b ≡ Less → slice_cmp nat_cmp b a ≡ Greater
turned a b h = nat_list_cmp_total.antisymm b a ∙ ap ordering_reverse h

above_more : (a b c : List ℕ) → slice_cmp nat_cmp a b ≡ Greater → slice_cmp nat_cmp a c ≡ Less → slice_cmp nat_cmp c b ≡ Greater
above_more a b c over next =
    let under : slice_cmp nat_cmp b a ≡ Less = nat_list_cmp_total.antisymm b a ∙ ap ordering_reverse over in
    turned b c (nat_list_cmp_total.trans b a c under next)

less : (o : Ordering) → is_lt o ≡ true → o ≡ Less
less Less h = refl
less Equal h = cc
less Greater h = cc

AllBelow-next : (last p : Pair) (done : List Pair) → slice_cmp nat_cmp last.name p.name ≡ Less → AllBelow last.name done → AllBelow p.name (done ++ last ∷ [])
AllBelow-next last p [] rises below = (turned last.name p.name rises, tt)
AllBelow-next last p (d ∷ ds) rises below = (above_more last.name d.name p.name below.0 rises, AllBelow-next last p ds rises below.1)

with_pairs-rising : (done : List Pair) (last : Pair) (ps : List Pair) → AllBelow last.name done → rise_from last.name ps ≡ true → with_pairs (in_order (done ++ last ∷ [])) ps ≡ in_order ((done ++ last ∷ []) ++ ps)
with_pairs-rising done last [] below rises = ap in_order (sym (append-nil (done ++ last ∷ [])))
with_pairs-rising done last (p ∷ ps) below rises =
    let first = and_parts (is_lt (slice_cmp nat_cmp last.name p.name)) (rise_from p.name ps) rises in
    let under = AllBelow-next last p done (less _ first.0) below in
    ap (λ ms. with_pairs ms ps) (put_last (done ++ last ∷ []) p under) ∙ with_pairs-rising (done ++ last ∷ []) p ps under first.1 ∙ ap in_order (append_assoc (done ++ last ∷ []) (p ∷ []) ps)

pub with_pairs-in_order : (ps : List Pair) → are_rising ps ≡ true → with_pairs no_members ps ≡ in_order ps
with_pairs-in_order [] rises = refl
with_pairs-in_order (p ∷ ps) rises = with_pairs-rising [] p ps tt rises

members-in_order : (ps : List Pair) → members_tokens (members_outline (in_order ps)) ≡ tokens_in_order ps ++ end_object ∷ []
members-in_order [] = refl
members-in_order (p ∷ ps) = ap (λ ts. key p.name ∷ string p.text ∷ ts) (members-in_order ps)

pub tokens_of_pairs-in_order : (ps : List Pair) → are_rising ps ≡ true → tokens_of_pairs ps ≡ tokens_in_order ps ++ end_object ∷ []
tokens_of_pairs-in_order ps rises = ap (λ ms. members_tokens (members_outline ms)) (with_pairs-in_order ps rises) ∙ members-in_order ps

-- ---- a map of them

abbrev Ref : Type 0
Ref = Bor (List ℕ)

members_of_refs-match : (o : Ordering) (a b c : List (Ref × Ref)) → members_of_refs (match_ordering o a b c) ≡ match_ordering o (members_of_refs a) (members_of_refs b) (members_of_refs c)
members_of_refs-match Less a b c = refl
members_of_refs-match Equal a b c = refl
members_of_refs-match Greater a b c = refl

members_of_refs-insert : (es : List (Ref × Ref)) (k v : Ref) → members_of_refs (insert_entry (λ x y. slice_cmp nat_cmp x.now y.now) es k v) ≡ put k.now (string_data v.now) (members_of_refs es)
members_of_refs-insert [] k v = refl
members_of_refs-insert (e ∷ es) k v = members_of_refs-match (slice_cmp nat_cmp k.now e.0.now) _ _ _ ∙ rw (members_of_refs-insert es k v)

with_pairs-push : (ms : Members) (ps : List Pair) (p : Pair) → with_pairs ms (ps ++ p ∷ []) ≡ put p.name (string_data p.text) (with_pairs ms ps)
with_pairs-push ms [] p = refl
with_pairs-push ms (q ∷ qs) p = with_pairs-push (put q.name (string_data q.text) ms) qs p

pub inserted : (es new : List (Ref × Ref)) (ps : List Pair) (i : ℕ) (p : Pair) (k v : Ref) → i < length ps → p ≡ get_or ps i p → k.now ≡ p.name → v.now ≡ p.text
    → members_of_refs es ≡ with_pairs no_members (take i ps) → new ≡ insert_entry (λ x y. slice_cmp nat_cmp x.now y.now) es k v → members_of_refs new ≡ with_pairs no_members (take (i + 1) ps)
inserted es new ps i p k v within is name text so_far made =
    ap members_of_refs made ∙ members_of_refs-insert es k v ∙ rw (so_far, name, text) (sym (ap (with_pairs no_members) (take_more ps i p within ∙ ap (λ q. take i ps ++ q ∷ []) (sym is)) ∙ with_pairs-push no_members (take i ps) p))
