-- Rows with room among them, beside the list that they stand for.
use Rattle.std.proofs.Common.{◌≡◌, ℕ, ◌+◌, ◌-◌, ◌<◌, ◌≤◌, List, ◌++◌, map, length, take, drop, set, take-add, append-nil, append_assoc, length-append, length-take, length-drop, sym, ap, ◌∙◌, arith}
use Rattle.std.specs.List.{copy_within}
use Rattle.std.proofs.lemmas.List.{length-map, take-append-drop, drop-drop, take-take, take_at, drop_at, drop_all, set-append_right}
use Rattle.std.proofs.Math.Seq.{take-append-le, drop-append-le, set-append_left, take-set-le, take-set-lt, drop-set-lt, drop-set-add, length-paste, take-paste, drop-paste}
use Rattle.xf_tree_rows.specs.Rows.{rotated}

-- what stands before the room, and what stands behind it
abbrev pub around_room : {X : Type 0} → ℕ → ℕ → List X → List X
around_room start room xs = take start xs ++ drop (start + room) xs

module _ {X : Type 0} where
  front-length : (n : ℕ) (xs : List X) → n ≤ length xs → length (take n xs) ≡ n
  front-length n xs h = omega (arith, h, length-take n xs)

  pub around-length : (start room : ℕ) (xs : List X) → start + room ≤ length xs → length (around_room start room xs) + room ≡ length xs
  around-length start room xs h = omega (arith, h, length-append (take start xs) (drop (start + room) xs), length-take start xs, length-drop (start + room) xs)

  -- ---- one item is written

  pub put-before : (start room at : ℕ) (xs : List X) (x : X) → start + room ≤ length xs → at < start → around_room start room (set xs at x) ≡ set (around_room start room xs) at x
  put-before start room at xs x h less =
      let far : at < start + room = omega (arith, less) in
      let few : start ≤ length xs = omega (arith, h) in
      let within : at < length (take start xs) = omega (arith, less, front-length start xs few) in
      ap (λ l. l ++ drop (start + room) (set xs at x)) (take-set-lt start xs at x less) ∙ ap (λ l. set (take start xs) at x ++ l) (drop-set-lt (start + room) xs at x far)
      ∙ sym (set-append_left (take start xs) (drop (start + room) xs) at x within)

  pub put-behind : (start room at : ℕ) (xs : List X) (x : X) → start + room ≤ length xs → start ≤ at → around_room start room (set xs (at + room) x) ≡ set (around_room start room xs) at x
  put-behind start room at xs x h more =
      let far : start ≤ at + room = omega (arith, more) in
      let few : start ≤ length xs = omega (arith, h) in
      let place : at + room ≡ (start + room) + (at - start) = omega (arith, more) in
      ap (λ l. l ++ drop (start + room) (set xs (at + room) x)) (take-set-le start xs (at + room) x far)
      ∙ ap (λ l. take start xs ++ l) (ap (λ i. drop (start + room) (set xs i x)) place ∙ drop-set-add (start + room) xs (at - start) x)
      ∙ sym (set-append_right (take start xs) (drop (start + room) xs) start at x (front-length start xs few) more)

  -- ---- the room moves

  -- the first of these lists, where the room moves to an earlier place
  pub moved-forward : (start room to : ℕ) (xs : List X) → start + room ≤ length xs → to ≤ start → around_room to room (copy_within xs to start (to + room)) ≡ around_room start room xs
  moved-forward start room to xs h less =
      let n = start - to in
      let place : to + room ≤ length xs = omega (arith, h, less) in
      let some : n ≤ length (drop to xs) = omega (arith, h, less, length-drop to xs) in
      let last : to + room + n ≡ start + room = omega (arith, less) in
      let new = copy_within xs to start (to + room) in
      let whole : take (to + room + n) new ≡ take (to + room) xs ++ take n (drop to xs) = take-paste xs (to + room) (drop to xs) n place some in
      let rest : drop (to + room + n) new ≡ drop (to + room + n) xs = drop-paste xs (to + room) (drop to xs) n place some in
      let is : new ≡ (take (to + room) xs ++ take n (drop to xs)) ++ drop (start + room) xs = sym (take-append-drop (to + room + n) new) ∙ ap (λ l. l ++ drop (to + room + n) new) whole ∙ ap (λ l. (take (to + room) xs ++ take n (drop to xs)) ++ l) (rest ∙ ap (λ k. drop k xs) last) in
      let parts : new ≡ take (to + room) xs ++ (take n (drop to xs) ++ drop (start + room) xs) = is ∙ append_assoc (take (to + room) xs) (take n (drop to xs)) (drop (start + room) xs) in
      let long = front-length (to + room) xs place in
      let early : to ≤ length (take (to + room) xs) = omega (arith, long) in
      let short : to ≤ to + room = omega arith in
      let before : take to new ≡ take to xs = ap (take to) parts ∙ take-append-le to (take (to + room) xs) (take n (drop to xs) ++ drop (start + room) xs) early ∙ take-take to (to + room) xs short in
      let behind : drop (to + room) new ≡ take n (drop to xs) ++ drop (start + room) xs = ap (drop (to + room)) parts ∙ drop_at (take (to + room) xs) (take n (drop to xs) ++ drop (start + room) xs) (to + room) long in
      ap (λ l. l ++ drop (to + room) new) before ∙ ap (λ l. take to xs ++ l) behind ∙ sym (append_assoc (take to xs) (take n (drop to xs)) (drop (start + room) xs))
      ∙ ap (λ l. l ++ drop (start + room) xs) (front-parts to start xs less)
    where
      front-parts : (to start : ℕ) (xs : List X) → to ≤ start → take to xs ++ take (start - to) (drop to xs) ≡ take start xs
      front-parts to start xs h =
          let e : start ≡ to + (start - to) = omega (arith, h) in
          sym (ap (λ k. take k xs) e ∙ take-add to (start - to) xs)

  -- and where it moves to a later one
  pub moved-back : (start room to : ℕ) (xs : List X) → to + room ≤ length xs → start ≤ to → around_room to room (copy_within xs (start + room) (to + room) start) ≡ around_room start room xs
  moved-back start room to xs h more =
      let n = (to + room) - (start + room) in
      let count : n ≡ to - start = omega (arith, more) in
      let place : start ≤ length xs = omega (arith, h, more) in
      let some : n ≤ length (drop (start + room) xs) = omega (arith, h, more, length-drop (start + room) xs) in
      let last : start + n ≡ to = omega (arith, more) in
      let new = copy_within xs (start + room) (to + room) start in
      let before : take to new ≡ take start xs ++ take n (drop (start + room) xs) = ap (λ k. take k new) (sym last) ∙ take-paste xs start (drop (start + room) xs) n place some in
      let rest : drop to new ≡ drop to xs = ap (λ k. drop k new) (sym last) ∙ drop-paste xs start (drop (start + room) xs) n place some ∙ ap (λ k. drop k xs) last in
      let behind : drop (to + room) new ≡ drop (to + room) xs = sym (drop-drop room to new) ∙ ap (drop room) rest ∙ drop-drop room to xs in
      let end : start + room + n ≡ to + room = omega (arith, more) in
      let left : drop n (drop (start + room) xs) ≡ drop (to + room) xs = drop-drop n (start + room) xs ∙ ap (λ k. drop k xs) end in
      ap (λ l. l ++ drop (to + room) new) before ∙ ap (λ l. (take start xs ++ take n (drop (start + room) xs)) ++ l) behind
      ∙ append_assoc (take start xs) (take n (drop (start + room) xs)) (drop (to + room) xs)
      ∙ ap (λ l. take start xs ++ l) (ap (λ l. take n (drop (start + room) xs) ++ l) (sym left) ∙ take-append-drop n (drop (start + room) xs))

  -- ---- what changes while the room stands at the end

  -- a list with room at its end
  pub at-end : (start room : ℕ) (xs : List X) → start + room ≡ length xs → around_room start room xs ≡ take start xs
  at-end start room xs h =
      let past : length xs ≤ start + room = omega (arith, h) in
      ap (λ l. take start xs ++ l) (drop_all (start + room) xs past) ∙ append-nil (take start xs)

  -- a change of the first items does not touch the room
  pub front-changed : (start room : ℕ) (xs ys : List X) → start + room ≡ length xs → length ys ≡ start → around_room start room (ys ++ drop start xs) ≡ ys
  front-changed start room xs ys h len =
      let all : start + room ≡ length (ys ++ drop start xs) = omega (arith, h, len, length-append ys (drop start xs), length-drop start xs) in
      at-end start room (ys ++ drop start xs) all ∙ take_at ys (drop start xs) start len

  -- what is copied within a list leaves its length
  pub length-copied : (from to at : ℕ) (xs : List X) → at + (to - from) ≤ length xs → to ≤ length xs → length (copy_within xs from to at) ≡ length xs
  length-copied from to at xs place h = length-paste xs at (drop from xs) (to - from) place (omega (arith, h, length-drop from xs))

  -- ---- changes of the front

  pub rotated-front : (at mid end : ℕ) (xs ys : List X) → at ≤ mid → mid ≤ end → end ≤ length xs → rotated at mid end (xs ++ ys) ≡ rotated at mid end xs ++ ys
  rotated-front at mid end xs ys a b c =
      let m : mid ≤ length xs = omega (arith, b, c) in
      let f : at ≤ length xs = omega (arith, a, m) in
      let one : take (end - mid) (drop mid (xs ++ ys)) ≡ take (end - mid) (drop mid xs) =
      ap (take (end - mid)) (drop-append-le mid xs ys m) ∙ take-append-le (end - mid) (drop mid xs) ys (omega (arith, c, length-drop mid xs)) in
      let two : take (mid - at) (drop at (xs ++ ys)) ≡ take (mid - at) (drop at xs) =
      ap (take (mid - at)) (drop-append-le at xs ys f) ∙ take-append-le (mid - at) (drop at xs) ys (omega (arith, m, length-drop at xs)) in
      let middle = take (end - mid) (drop mid xs) ++ take (mid - at) (drop at xs) in
      ap (λ l. l ++ ((take (end - mid) (drop mid (xs ++ ys)) ++ take (mid - at) (drop at (xs ++ ys))) ++ drop end (xs ++ ys))) (take-append-le at xs ys f)
      ∙ ap (λ l. take at xs ++ ((l ++ take (mid - at) (drop at (xs ++ ys))) ++ drop end (xs ++ ys))) one
      ∙ ap (λ l. take at xs ++ ((take (end - mid) (drop mid xs) ++ l) ++ drop end (xs ++ ys))) two
      ∙ ap (λ l. take at xs ++ (middle ++ l)) (drop-append-le end xs ys c)
      ∙ ap (λ l. take at xs ++ l) (sym (append_assoc middle (drop end xs) ys)) ∙ sym (append_assoc (take at xs) (middle ++ drop end xs) ys)

  -- a part of the front that is mapped
  pub mapped-front : (f : X → X) (from to : ℕ) (xs ys : List X) → from ≤ to → to ≤ length xs
      → take from (xs ++ ys) ++ (map f (take (to - from) (drop from (xs ++ ys))) ++ drop to (xs ++ ys)) ≡ (take from xs ++ (map f (take (to - from) (drop from xs)) ++ drop to xs)) ++ ys
  mapped-front f from to xs ys a b =
      let few : from ≤ length xs = omega (arith, a, b) in
      let one : take (to - from) (drop from (xs ++ ys)) ≡ take (to - from) (drop from xs) =
      ap (take (to - from)) (drop-append-le from xs ys few) ∙ take-append-le (to - from) (drop from xs) ys (omega (arith, b, length-drop from xs)) in
      let middle = map f (take (to - from) (drop from xs)) in
      ap (λ l. l ++ (map f (take (to - from) (drop from (xs ++ ys))) ++ drop to (xs ++ ys))) (take-append-le from xs ys few)
      ∙ ap (λ l. take from xs ++ (map f l ++ drop to (xs ++ ys))) one
      ∙ ap (λ l. take from xs ++ (middle ++ l)) (drop-append-le to xs ys b)
      ∙ ap (λ l. take from xs ++ l) (sym (append_assoc middle (drop to xs) ys)) ∙ sym (append_assoc (take from xs) (middle ++ drop to xs) ys)

  part-front : (from n : ℕ) (xs ys : List X) → from + n ≤ length xs → take n (drop from (xs ++ ys)) ≡ take n (drop from xs)
  part-front from n xs ys h =
      ap (take n) (drop-append-le from xs ys (omega (arith, h))) ∙ take-append-le n (drop from xs) ys (omega (arith, h, length-drop from xs))

  pub copied-front : (from to at : ℕ) (xs ys : List X) → at ≤ from → from ≤ to → to ≤ length xs → copy_within (xs ++ ys) from to at ≡ copy_within xs from to at ++ ys
  copied-front from to at xs ys a b c =
      let n = to - from in
      let few : at ≤ length xs = omega (arith, a, b, c) in
      let most : at + n ≤ length xs = omega (arith, a, b, c) in
      let one = part-front from n xs ys (omega (arith, b, c)) in
      ap (λ l. (l ++ take n (drop from (xs ++ ys))) ++ drop (at + n) (xs ++ ys)) (take-append-le at xs ys few)
      ∙ ap (λ l. (take at xs ++ l) ++ drop (at + n) (xs ++ ys)) one
      ∙ ap (λ l. (take at xs ++ take n (drop from xs)) ++ l) (drop-append-le (at + n) xs ys most)
      ∙ sym (append_assoc (take at xs ++ take n (drop from xs)) (drop (at + n) xs) ys)

  pub length-rotated : (at mid end : ℕ) (xs : List X) → at ≤ mid → mid ≤ end → end ≤ length xs → length (rotated at mid end xs) ≡ length xs
  length-rotated at mid end xs a b c =
      let one = take (end - mid) (drop mid xs) in
      let two = take (mid - at) (drop at xs) in
      omega (arith, a, b, c, length-append (take at xs) ((one ++ two) ++ drop end xs), length-append (one ++ two) (drop end xs), length-append one two, length-take at xs, length-take (end - mid) (drop mid xs), length-drop mid xs, length-take (mid - at) (drop at xs), length-drop at xs, length-drop end xs)

  pub length-mapped : (f : X → X) (from to : ℕ) (xs : List X) → from ≤ to → to ≤ length xs → length (take from xs ++ (map f (take (to - from) (drop from xs)) ++ drop to xs)) ≡ length xs
  length-mapped f from to xs a b =
      let part = take (to - from) (drop from xs) in
      omega (arith, a, b, length-append (take from xs) (map f part ++ drop to xs), length-append (map f part) (drop to xs), length-map part f, length-take from xs, length-take (to - from) (drop from xs), length-drop from xs, length-drop to xs)

  -- what stands behind a list with room at its end
  pub with-room : (start room : ℕ) (all shown : List X) → around_room start room all ≡ shown → start + room ≤ length all → start ≡ length shown → all ≡ shown ++ drop start all
  with-room start room all shown is h len =
      let whole : start + room ≡ length all = omega (arith, len, ap length is, around-length start room all h) in
      sym (take-append-drop start all) ∙ ap (λ l. l ++ drop start all) (sym (at-end start room all whole) ∙ is)

  -- a change of the list that leaves its length and what stands behind it
  pub end-changed : (start room : ℕ) (all shown : List X) (change : List X → List X) → around_room start room all ≡ shown → start + room ≤ length all → start ≡ length shown
      → change (shown ++ drop start all) ≡ change shown ++ drop start all → length (change shown) ≡ length shown → around_room start room (change all) ≡ change shown
  end-changed start room all shown change is h len front same =
      let whole : start + room ≡ length all = omega (arith, len, ap length is, around-length start room all h) in
      ap (λ l. around_room start room (change l)) (with-room start room all shown is h len) ∙ ap (around_room start room) front
      ∙ front-changed start room all (change shown) whole (same ∙ sym len)

  pub part-shown : (start room from n : ℕ) (all shown : List X) → around_room start room all ≡ shown → start + room ≤ length all → start ≡ length shown → from + n ≤ length shown
      → take n (drop from shown) ≡ take n (drop from all)
  part-shown start room from n all shown is h len few = sym (part-front from n shown (drop start all) few) ∙ ap (λ l. take n (drop from l)) (sym (with-room start room all shown is h len))
