-- The law on which incremental recalculation rests: two forests that agree on what an expression reads and looks at give it one value.
use Rattle.std.proofs.Common.{◌≡◌, ℕ, true, Option, Some, None, refl, sym, ap, ◌∙◌, subst}
use Rattle.xf_def_syntax.specs.declared.expr.Expr.{Expr}
use Rattle.xf_def_xpath.specs.Setting.{Focus, ◌>>=◌}
use Rattle.xf_def_xpath.specs.declared.value.Value.{Value}
use Rattle.xf_def_xpath.specs.Conversions.{nodes_of, string_of}
use Rattle.xf_def_xpath.specs.Meaning.{meaning}
use Rattle.xf_def_xpath.specs.Asked.{Asked, converted}
use Rattle.xf_def_xpath.specs.Reads.{trace}
use Rattle.xf_def_xpath.specs.Exact.{facts_of}
use Rattle.xf_def_xpath.proofs.TraceKeeps.{meaning-of_trace}
use Rattle.xf_def_xpath.proofs.Comparison.{Comparison, other, over_shape, Solid}
use Rattle.xf_def_xpath.proofs.Gives.{Gives, nothing, both}
use Rattle.xf_def_xpath.proofs.VisitFacts.{some-same, none-some}
use Rattle.xf_def_xpath.proofs.ValueAgree.{Premise, Agreed, in-converted, made, string-of_same}
use Rattle.xf_def_xpath.proofs.AgreeCalls.{Standing}
use Rattle.xf_def_xpath.proofs.AgreeLaw.{agreement}

-- the two forests in the other order
abbrev pub swapped : Comparison → Comparison
swapped w = record {
  setting = other w;
  others = w.setting.all;
  strings = w.setting.strings;
  documents = w.setting.given.documents;
  indexes = w.setting.given.indexes;
  event = w.setting.given.event;
  shape_documents = w.shape_documents;
  shape_indexes = w.shape_indexes;
  shape_event = w.shape_event;
  shape = w.shape;
  shape_strings = w.shape_strings;
  functions = w.functions;
  extend = w.extend;
  visits = w.other_visits;
  other_visits = w.visits;
  shape_visits = w.shape_visits;
  frame = w.other_frame;
  other_frame = w.frame;
}

solid-swapped : (w : Comparison) (k : ℕ) → Solid w k → Solid (swapped w) k
solid-swapped w k h = record { visit = h.visit; in_shape = h.in_shape; in_first = h.in_second; in_second = h.in_first }

standing-swapped : (w : Comparison) → Standing w → Standing (swapped w)
standing-swapped w h = record {
  current = solid-swapped w w.setting.current h.current;
  absent = λ id e. ((h.absent id e).1, (h.absent id e).0);
  truths = h.truths;
}

premise-swapped : (w : Comparison) (a : Asked) → Premise w a → Premise (swapped w) a
premise-swapped w a p = record {
  lists = record {
    first = p.lists.second;
    second = p.lists.first;
    same = λ id n e k. let d = p.lists.same id n e k in record { first = d.second; second = d.first; solid = solid-swapped w n d.solid };
  };
  strings = λ n i h. sym (p.strings n i h);
}

given-some : {A : Type 0} {P : A → Type 0} {x : A} {m : Option A} → Gives P (Some x) m → m ≡ Some x
given-some (both p) = refl

-- what each gives the other gives
given-both : {A : Type 0} {P Q : A → Type 0} (m m' : Option A) → Gives P m m' → Gives Q m' m → m ≡ m'
given-both None None h k = refl
given-both None (Some y) h k = given-some k
given-both (Some x) m' h k = sym (given-some h)

of-given : {A : Type 0} {P : A → Type 0} {m m' : Option A} (x : A) → Gives P m m' → m ≡ Some x → P x
of-given x nothing e = none-some e
of-given {P = P} x (both p) e = subst P (some-same e) p

module _ (w : Comparison) (stand : Standing w) (x : Expr) (exact : (facts_of x).is_exact ≡ true) (c : Focus) (node : Solid w c.node) where
  abbrev asked : Asked
  asked = (trace x).asked (over_shape w) c

  first : Premise w asked → Agreed w asked ((trace x).meaning w.setting c) ((trace x).meaning (other w) c)
  first p = agreement w stand x exact c node p

  second : Premise w asked → Agreed (swapped w) asked ((trace x).meaning (other w) c) ((trace x).meaning w.setting c)
  second p = agreement (swapped w) (standing-swapped w stand) x exact c (solid-swapped w c.node node) (premise-swapped w asked p)

  -- one value, or none in both
  pub value-agrees : Premise w asked → meaning x w.setting c ≡ meaning x (other w) c
  value-agrees p =
      ap (λ m. m w.setting c) (sym (meaning-of_trace x))
      ∙ given-both ((trace x).meaning w.setting c) ((trace x).meaning (other w) c) (first p).given (second p).given
      ∙ ap (λ m. m (other w) c) (meaning-of_trace x)

  -- one text, where the whole expression is asked
  pub text-agrees : Premise w (converted (over_shape w) asked) → (meaning x w.setting c >>= string_of w.setting) ≡ (meaning x (other w) c >>= string_of (other w))
  text-agrees p =
      let q : Premise w asked = in-converted w asked p in
      ap (λ m. m w.setting c >>= string_of w.setting) (sym (meaning-of_trace x))
      ∙ given-both ((trace x).meaning w.setting c >>= string_of w.setting) ((trace x).meaning (other w) c >>= string_of (other w))
      (made w (string_of w.setting) (string_of (other w)) (string-of_same w) asked _ _ (first q) p)
      (made (swapped w) (string_of (other w)) (string_of w.setting) (string-of_same (swapped w)) asked _ _ (second q) (premise-swapped w (converted (over_shape w) asked) p))
      ∙ ap (λ m. m (other w) c >>= string_of (other w)) (meaning-of_trace x)

  -- the nodes of the value are those that are asked
  pub set-asked : Premise w asked → (v : Value) → meaning x w.setting c ≡ Some v → nodes_of v ≡ asked.set
  set-asked p v e = (of-given v (first p).given (ap (λ m. m w.setting c) (meaning-of_trace x) ∙ e)).0
