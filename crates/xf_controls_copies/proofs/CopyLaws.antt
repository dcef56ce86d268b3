-- A copy by where its element is evaluated and the node that it binds.
use Rattle.std.proofs.Common.{◌≡◌, ℕ, List, Option, Some, None, sym, ap, ◌∙◌}
use Rattle.xf_def_xpath.specs.Setting.{◌>>=◌}
use Rattle.xf_def_ui.specs.declared.marks.Marks.{Marks}
use Rattle.xf_def_ui.specs.Around.{Around}
use Rattle.xf_def_ui.specs.Context.{Context, context_of}
use Rattle.xf_def_ui.specs.Copies.{copy_of}
use Rattle.xf_def_ui.specs.Interface.{Interface}
use Rattle.xf_controls_copies.specs.Made.{copy_in, node_in}

module _ (f : Interface) (a : Around) (marks : ℕ → Marks) (cases rows : List ℕ) (n : ℕ) where
  by-context : (o : Option Context) → context_of f a rows n ≡ o → copy_of f a marks cases rows n ≡ (o >>= λ c. (o >>= node_in f a n) >>= λ node. copy_in f a marks cases rows n c node)
  by-context o e = ap (λ (m : Option Context). m >>= λ c. (m >>= node_in f a n) >>= λ node. copy_in f a marks cases rows n c node) e

  pub context-lost : context_of f a rows n ≡ None → copy_of f a marks cases rows n ≡ None
  context-lost e = by-context None e

  pub node-lost : (c : Context) → context_of f a rows n ≡ Some c → node_in f a n c ≡ None → copy_of f a marks cases rows n ≡ None
  node-lost c e h = by-context (Some c) e ∙ ap (λ m. m >>= λ node. copy_in f a marks cases rows n c node) h

  pub copy-is : (c : Context) (selected : Option ℕ) → context_of f a rows n ≡ Some c → node_in f a n c ≡ Some selected → copy_in f a marks cases rows n c selected ≡ copy_of f a marks cases rows n
  copy-is c selected e h = sym (by-context (Some c) e ∙ ap (λ m. m >>= λ x. copy_in f a marks cases rows n c x) h)
