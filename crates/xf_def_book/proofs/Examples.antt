-- Worked books and slots.
use Rattle.std.proofs.Common.{◌≡◌, ◌∙◌, sym, ap, ℕ, true, false, List, [], ◌∷◌, ◌++◌, length, Option, Some, None, Ok, Err, codes, refl}
use Rattle.std.specs.Prelude.{◌+◌, ◌^◌, Bool, ◌&&◌, nat_lt, nat_le, option_map, drop, if◌then◌else◌}
use Rattle.std.specs.Fmt.{digits}
use Rattle.std.specs.Str.{is_utf8, chars}
use lib.Utf8.{encode}
use Rattle.serde_json.proofs.OnLiterals.{serde_json_on_literals}
use Rattle.json.specs.Print.{escape_byte}
use Rattle.ucd_derived.specs.Binary.{is_xid_start}
use Rattle.ucd_derived.specs.XidStartRanges.{xid_start_ranges}
use Rattle.ucd_table.specs.Rows.{in_ranges}
use Rattle.xf_disk.specs.Image.{Image}
use Rattle.xf_def_forest.specs.declared.bare.Bare.{Bare}
use Rattle.xf_def_forest.specs.declared.bare.Bare.TheVariants as bare
use Rattle.xf_def_forest.specs.declared.bare.Bare.TheOpen.{Bare-F, BareElement-F}
use Rattle.xf_def_forest.specs.declared.bare.Bare.TheFolds.{fold-roll-Bare, fold-roll-BareElement}
use Rattle.xf_def_forest.specs.declared.bare.BareElement.{BareElement, roll-BareElement}
use Rattle.xf_def_forest.specs.Limits.{limits}
use Rattle.xf_num.specs.Number.{scale}
use Rattle.xf_line.specs.declared.event.Asked.TheVariants as asked
use Rattle.xf_line.specs.declared.event.Event.TheVariants.{Set}
use Rattle.xf_line.specs.declared.fault.LineFault.TheVariants.{NotJson, NotEvent}
use Rattle.xf_store.specs.declared.call.StoreCall.{StoreCall}
use Rattle.xf_journal.specs.Numbers.{from_four, from_eight}
use Rattle.xf_snap.specs.Numbers.{from_two}
use Rattle.xf_snap.specs.Numbers as snap
use Rattle.xf_snap.specs.declared.snap.Snap.{Snap}
use Rattle.xf_snap.specs.Spelling.{tree_level, element_level, tree_bytes}
use Rattle.xf_snap.specs.Within.{is_element, tree_nodes, node_level, node_element, tree_size, size_level, size_element}
use Rattle.xf_snap.specs.Within as within_limits
use Rattle.xf_snap.specs.Reading.{Front, ◌>>=◌, ended, keeps_limits, snap_in, snap_at, documents_at, indexes_at, cases_at, several, element_at, element_over, tree_over, name_at, text_at, attribute_at}
use Rattle.xf_def_machine.specs.State.{State}
use Rattle.xf_def_machine.specs.Examples.{profile}
use Rattle.xf_def_sessions.specs.Sessions.{snap_of}
use Rattle.xf_def_sessions.specs.Examples.{machine, begun, after_set, first_bytes, snap_base}
use Rattle.xf_def_book.specs.Lines.{join, line, is_user, book_line_by}
use Rattle.xf_def_book.specs.Alone.{Told, passes_share, share_limit, told, told_within, told_join}
use Rattle.xf_def_book.specs.Books.{Book, with_state, reply_told, reply_read, to_user}
use Rattle.xf_def_book.specs.Images.{Item, Member, Stands, StandsForNone, joined, if_within, take_item, taken, own_run, member_as, member_at, members_at, members_at_base}
use Rattle.xf_def_book.specs.Examples.{form_a, join_line, line_for, set_line, show_line, ann, bob, cat, user, with_ann, with_both, with_text, reply_to, both_join, ann_sets, entry_of, new_slot, member_bytes, compact_slot}

-- ---- users and lines

a_user : is_user (codes "ann7") ≡ true
a_user = refl

upper_case : is_user (codes "Ann") ≡ false
upper_case = refl

no_letter : is_user [] ≡ false
no_letter = refl

most_letters : is_user (codes "abcdefgh01234567") ≡ true
most_letters = refl

too_many : is_user (codes "abcdefgh012345678") ≡ false
too_many = refl

a_join : book_line_by (join_line ann) ≡ Ok (record { user = ann; wanted = join })
unfolding book_line_by serde_json_on_literals is_utf8 chars
a_join = refl

bob_join : book_line_by (join_line bob) ≡ Ok (record { user = bob; wanted = join })
unfolding book_line_by serde_json_on_literals is_utf8 chars
bob_join = refl

a_set : book_line_by (line_for ann set_line) ≡ Ok (record { user = ann; wanted = line (asked.Event (Set (codes "a") [] (codes "2"))) })
unfolding book_line_by serde_json_on_literals is_utf8 chars
a_set = refl

-- nothing of these: an undo, a line without a user, two lines, and a user that is none
an_undo : book_line_by (line_for ann (codes "[\"undo\"]")) ≡ Err NotEvent
unfolding book_line_by serde_json_on_literals is_utf8 chars
an_undo = refl

a_show_alone : book_line_by show_line ≡ Err NotEvent
unfolding book_line_by serde_json_on_literals is_utf8 chars
a_show_alone = refl

two_lines : book_line_by (line_for ann (codes "[\"show\"],[\"show\"]")) ≡ Err NotEvent
unfolding book_line_by serde_json_on_literals is_utf8 chars
two_lines = refl

no_user_name : book_line_by (join_line (codes "A")) ≡ Err NotEvent
unfolding book_line_by serde_json_on_literals is_utf8 chars
no_user_name = refl

no_json : book_line_by (codes "[\"join\",") ≡ Err NotJson
unfolding book_line_by serde_json_on_literals is_utf8 chars
no_json = refl

-- ---- what a user has: the snapshots of ["d",TEXT]

abbrev inside : List ℕ → BareElement-F Bare BareElement
inside text = record { name = record { space = 0; prefix = 0; local = codes "d" }; attributes = []; children = bare.Text text ∷ [] }

abbrev inside_bytes : List ℕ → List ℕ → List ℕ
inside_bytes text child = 0 ∷ element_level (record { name = record { space = 0; prefix = 0; local = codes "d" }; attributes = []; children = child ∷ [] })

child_bytes : (text : List ℕ) → tree_bytes (bare.Text text) ≡ tree_level (Bare-F.Text text)
child_bytes text = ap tree_bytes (sym (bare.rolls-Text text)) ∙ fold-roll-Bare (List ℕ) (List ℕ) tree_level element_level (Bare-F.Text text)

document_bytes : (text : List ℕ) → tree_bytes (bare.Element (roll-BareElement (inside text))) ≡ inside_bytes text (tree_level (Bare-F.Text text))
document_bytes text =
    ap tree_bytes (sym (bare.rolls-Element (roll-BareElement (inside text))))
    ∙ fold-roll-Bare (List ℕ) (List ℕ) tree_level element_level (Bare-F.Element (roll-BareElement (inside text)))
    ∙ ap (λ bytes. 0 ∷ bytes) (fold-roll-BareElement (List ℕ) (List ℕ) tree_level element_level (inside text))
    ∙ ap (inside_bytes text) (child_bytes text)

-- they are small
small_start : passes_share begun.state ≡ false
unfolding scale snap_of snap.eight snap.two snap.four
small_start = ap (λ bytes. nat_lt share_limit (length (snap.eight 0 ++ (snap.two 1 ++ ((bytes ++ []) ++ (snap.two 0 ++ ([] ++ (snap.two 0 ++ [])))))))) (document_bytes (codes "1"))

small_text : passes_share after_set.state ≡ false
unfolding scale snap_of snap.eight snap.two snap.four
small_text = ap (λ bytes. nat_lt share_limit (length (snap.eight 1 ++ (snap.two 1 ++ ((bytes ++ []) ++ (snap.two 0 ++ ([] ++ (snap.two 0 ++ [])))))))) (document_bytes (codes "2"))

-- ---- replies

within : (s : Option State) (t : State) (text : List ℕ) (calls : List StoreCall) → passes_share t ≡ false
    → told_within s t text calls ≡ record { texts = text ∷ []; after = Some t; calls = calls }
within s t text calls few = rw few refl

-- what ann is told of her join, bob of his, and ann of her event
abbrev told_ann : Told
told_ann = record { texts = codes "joined 1\n" ∷ []; after = Some begun.state; calls = [] }

abbrev told_bob : Told
told_bob = record { texts = codes "joined 2\n" ∷ []; after = Some begun.state; calls = [] }

abbrev told_set : Told
told_set = record { texts = codes "ok 1 0\n" ∷ []; after = Some after_set.state; calls = [] }

ann_is_told : told profile form_a None 0 [] join ≡ told_ann
unfolding scale digits
ann_is_told = within None begun.state (codes "joined 1\n") [] small_start

bob_is_told : told profile form_a None 1 [] join ≡ told_bob
unfolding scale digits
bob_is_told = within None begun.state (codes "joined 2\n") [] small_start

ann_is_told_ok : told profile form_a (Some begun.state) 2 [] (line (asked.Event (Set (codes "a") [] (codes "2")))) ≡ told_set
unfolding scale digits
ann_is_told_ok = within (Some begun.state) after_set.state (codes "ok 1 0\n") [] small_text

-- what is written, and the book after it
ann_joins : reply_to [] (join_line ann) ≡ record { texts = codes "ann joined 1\n" ∷ []; after = with_ann; calls = [] }
ann_joins = ap (reply_read profile form_a [] []) a_join ∙ ap (reply_told [] ann) ann_is_told

bob_joins : reply_to with_ann (join_line bob) ≡ record { texts = codes "bob joined 2\n" ∷ []; after = with_both; calls = [] }
bob_joins = ap (reply_read profile form_a with_ann []) bob_join ∙ ap (reply_told with_ann bob) bob_is_told

-- bob's state is as it was
ann_sets_a : reply_to with_both (line_for ann set_line) ≡ record { texts = codes "ann ok 1 0\n" ∷ []; after = with_text; calls = [] }
ann_sets_a = ap (reply_read profile form_a with_both []) a_set ∙ ap (reply_told with_both ann) ann_is_told_ok

bob_shows :
    (reply_to with_text (line_for bob show_line)).texts ≡ codes "bob instance 1.1\nbob /d ew-v \"1\"\nbob control a [] ew-v \"1\"\nbob end\n" ∷ []
unfolding scale digits escape_byte book_line_by serde_json_on_literals is_utf8 chars is_xid_start in_ranges xid_start_ranges
bob_shows = refl

ann_shows :
    (reply_to with_text (line_for ann show_line)).texts ≡ codes "ann instance 1.1\nann /d ew-v \"2\"\nann control a [] ew-v \"2\"\nann end\n" ∷ []
unfolding scale digits escape_byte book_line_by serde_json_on_literals is_utf8 chars is_xid_start in_ranges xid_start_ranges
ann_shows = refl

no_cat : (reply_to with_text (line_for cat show_line)).texts ≡ codes "cat no E19 NoUser\n" ∷ []
unfolding book_line_by serde_json_on_literals is_utf8 chars
no_cat = refl

ann_again : (reply_to with_text (join_line ann)).texts ≡ codes "ann no E20 Joined\n" ∷ []
unfolding book_line_by serde_json_on_literals is_utf8 chars
ann_again = refl

-- E20 is tried before E18, which asks for another user
room_for_one : told_join profile form_a 63 [] ≡ record { texts = codes "joined 64\n" ∷ []; after = Some begun.state; calls = [] }
unfolding scale digits
room_for_one = within None begun.state (codes "joined 64\n") [] small_start

no_room : (told profile form_a None 64 [] join).texts ≡ codes "no E18 BookFull\n" ∷ []
no_room = refl

joined_before_full : (told profile form_a (Some begun.state) 64 [] join).texts ≡ codes "no E20 Joined\n" ∷ []
joined_before_full = refl

-- without a user
for_nobody : (reply_to with_text (codes "[\"undo\"]")).texts ≡ codes "no E3 NotEvent\n" ∷ []
unfolding book_line_by serde_json_on_literals is_utf8 chars
for_nobody = refl

a_blank : (reply_to with_text (codes " ")).texts ≡ [] ∷ []
a_blank = refl

-- a text of two lines
two_fronts : to_user ann (codes "x\ny\n") ≡ codes "ann x\nann y\n"
two_fronts = refl

-- ---- what a book takes

kept_within : (s : State) → passes_share s ≡ false → if_within s ≡ Some s
kept_within s few = rw few refl

then_taken : (b : Book) (o : Option Book) (item : Item) (items : List Item) → take_item profile form_a b item ≡ o
    → taken profile form_a (Some b) (item ∷ items) ≡ taken profile form_a o items
then_taken b o item items e = ap (λ after. taken profile form_a after items) e

ann_taken : take_item profile form_a [] (joined ann []) ≡ Some with_ann
unfolding scale
ann_taken = ap (option_map (with_state [] ann)) (kept_within begun.state small_start)

bob_taken : take_item profile form_a with_ann (joined bob []) ≡ Some with_both
unfolding scale
bob_taken = ap (option_map (with_state with_ann bob)) (kept_within begun.state small_start)

text_taken : take_item profile form_a with_both ann_sets ≡ Some with_text
unfolding scale
text_taken = ap (option_map (with_state with_both ann)) (kept_within after_set.state small_text)

both_and_text : taken profile form_a (Some []) (both_join ++ ann_sets ∷ []) ≡ Some with_text
both_and_text =
    then_taken [] (Some with_ann) (joined ann []) (joined bob [] ∷ ann_sets ∷ []) ann_taken
    ∙ then_taken with_ann (Some with_both) (joined bob []) (ann_sets ∷ []) bob_taken
    ∙ then_taken with_both (Some with_text) ann_sets [] text_taken

joined_once : taken profile form_a (Some with_ann) both_join ≡ None
joined_once = refl

-- ann's part of it, and bob's
of_ann : own_run profile form_a (both_join ++ ann_sets ∷ []) ann ≡ Some after_set.state
unfolding scale
of_ann = refl

of_bob : own_run profile form_a (both_join ++ ann_sets ∷ []) bob ≡ Some begun.state
unfolding scale
of_bob = refl

-- ---- slots

abbrev alone : List ℕ → Image
alone bytes = record { a = bytes; b = [] }

-- after one join
first_length : length (new_slot (entry_of 14 (join_line ann))) ≡ 175
first_length = refl

new_stands : Stands machine first_bytes [] (alone (new_slot []))
unfolding scale from_four from_eight members_at several
new_stands = ([], (_, refl, record { form = form_a; formed = refl; accepted = refl; before = []; after = []; split = refl; whole = refl; form_bytes = refl; adoptions = refl; members = []; users = refl; base = refl; entries = refl }))

ann_is_taken : taken profile form_a (Some []) (joined ann [] ∷ []) ≡ Some with_ann
ann_is_taken = then_taken [] (Some with_ann) (joined ann []) [] ann_taken

join_stands : Stands machine first_bytes (joined ann [] ∷ []) (alone (new_slot (entry_of 14 (join_line ann))))
unfolding scale from_four from_eight members_at several book_line_by serde_json_on_literals is_utf8 chars
join_stands = (with_ann, (_, refl, record { form = form_a; formed = refl; accepted = ann_is_taken; before = []; after = joined ann [] ∷ []; split = refl; whole = refl; form_bytes = refl; adoptions = refl; members = []; users = refl; base = refl; entries = refl }))

-- ann with the text, as the base lists her
abbrev with_ann_text : Book
with_ann_text = user ann after_set.state ∷ []

compact_length : length compact_slot ≡ 192
compact_length = refl

text_taken_alone : take_item profile form_a with_ann ann_sets ≡ Some with_ann_text
unfolding scale
text_taken_alone = ap (option_map (with_state with_ann ann)) (kept_within after_set.state small_text)

ann_text_is_taken : taken profile form_a (Some []) (joined ann [] ∷ ann_sets ∷ []) ≡ Some with_ann_text
ann_text_is_taken = then_taken [] (Some with_ann) (joined ann []) (ann_sets ∷ []) ann_taken ∙ then_taken with_ann (Some with_ann_text) ann_sets [] text_taken_alone

-- the snapshot is within the limits: an element and a text, of a byte each
abbrev the_document : BareElement-F Bare BareElement
the_document = inside (codes "2")

abbrev the_text : Bare
the_text = bare.Text (codes "2")

an_element : is_element (bare.Element (roll-BareElement the_document)) ≡ true
an_element =
    ap is_element (sym (bare.rolls-Element (roll-BareElement the_document)))
    ∙ fold-roll-Bare Bool Bool within_limits.element_level (λ e. true) (Bare-F.Element (roll-BareElement the_document))
    ∙ fold-roll-BareElement Bool Bool within_limits.element_level (λ e. true) the_document

abbrev numbered_with : (BareElement-F ℕ ℕ → ℕ) → ℕ → ℕ
numbered_with count child = count (record { name = record { space = 0; prefix = 0; local = codes "d" }; attributes = []; children = child ∷ [] })

two_nodes : tree_nodes (bare.Element (roll-BareElement the_document)) ≡ 2
two_nodes =
    ap tree_nodes (sym (bare.rolls-Element (roll-BareElement the_document)))
    ∙ fold-roll-Bare ℕ ℕ node_level node_element (Bare-F.Element (roll-BareElement the_document))
    ∙ fold-roll-BareElement ℕ ℕ node_level node_element the_document
    ∙ ap (numbered_with node_element) (ap tree_nodes (sym (bare.rolls-Text (codes "2"))) ∙ fold-roll-Bare ℕ ℕ node_level node_element (Bare-F.Text (codes "2")))

two_bytes : tree_size (bare.Element (roll-BareElement the_document)) ≡ 2
two_bytes =
    ap tree_size (sym (bare.rolls-Element (roll-BareElement the_document)))
    ∙ fold-roll-Bare ℕ ℕ size_level size_element (Bare-F.Element (roll-BareElement the_document))
    ∙ fold-roll-BareElement ℕ ℕ size_level size_element the_document
    ∙ ap (numbered_with size_element) (ap tree_size (sym (bare.rolls-Text (codes "2"))) ∙ fold-roll-Bare ℕ ℕ size_level size_element (Bare-F.Text (codes "2")))

abbrev kept_by : Bool → ℕ → ℕ → Bool
kept_by element nodes size = nat_lt 1 (2 ^ 63) && (element && true) && nat_le (0 + nodes) limits.nodes && nat_le (0 + size) limits.all

abbrev the_snap : Snap
the_snap = record { accepted = 1; documents = bare.Element (roll-BareElement the_document) ∷ []; indexes = []; cases = [] }

the_limits : keeps_limits the_snap ≡ true
the_limits =
    ap (λ e. kept_by e (tree_nodes (bare.Element (roll-BareElement the_document))) (tree_size (bare.Element (roll-BareElement the_document)))) an_element
    ∙ ap (λ n. kept_by true n (tree_size (bare.Element (roll-BareElement the_document)))) two_nodes
    ∙ ap (kept_by true 2) two_bytes

read_so : snap_at (drop 1 (snap_base 1)) ≡ Some the_snap
unfolding from_two snap.from_four snap.from_eight snap_at documents_at indexes_at cases_at several element_at element_over tree_over name_at text_at attribute_at is_utf8 chars encode
read_so = refl

read_whole : snap_in (drop 1 (snap_base 1)) ≡ Some the_snap
read_whole = ap (λ o. o >>= λ s. if keeps_limits s then Some s else None) read_so ∙ ap (λ (keeps : Bool). if keeps then Some the_snap else None) the_limits

abbrev behind_first : Front Member → Front (List Member)
behind_first first = first >>= λ member. several member_at 0 member.1 >>= λ others. Some (member.0 ∷ others.0, others.1)

its_members : members_at_base (2 ∷ 1 ∷ member_bytes ann 1) ≡ Some (record { name = ann; snap = the_snap } ∷ [])
unfolding members_at member_at several snap.from_four
its_members = ap (λ o. behind_first (member_as ann o []) >>= λ members. ended members.0 members.1) read_whole

its_snap : the_snap ≡ snap_of after_set.state
unfolding scale snap_of
its_snap = refl

compact_stands : Stands machine first_bytes (joined ann [] ∷ ann_sets ∷ []) (alone compact_slot)
unfolding scale snap_of from_four from_eight
compact_stands = (
  with_ann_text,
  (
    _,
    refl,
    record {
      form = form_a;
      formed = refl;
      accepted = ann_text_is_taken;
      before = joined ann [] ∷ ann_sets ∷ [];
      after = [];
      split = refl;
      whole = refl;
      form_bytes = refl;
      adoptions = refl;
      members = record { name = ann; snap = the_snap } ∷ [];
      users = refl;
      base = its_members;
      entries = refl;
    },
  ),
)

-- a base of a session is none of a book
other_base : members_at_base (1 ∷ []) ≡ None
other_base = refl

none_stands : StandsForNone (alone [])
none_stands = refl
