-- What a submission asks the store for, before it is called (XForms 1.1, section 11.2): or the error with which it ends.
use Rattle.std.specs.Prelude.{ℕ, List, [], codes, option_map, unwrap_or, if◌then◌else◌}
use Rattle.xf_name.specs.Bindings.{Bindings}
use Rattle.xf_json.specs.Printed.{text_of}
use Rattle.xf_store.specs.declared.call.Asked.{Asked}
use Rattle.xf_store.specs.declared.call.Asked.TheVariants as store
use Rattle.xf_def_syntax.specs.declared.form.Method.{Method}
use Rattle.xf_def_syntax.specs.declared.form.Method.TheVariants.{Put, Post, Get}
use Rattle.xf_def_syntax.specs.declared.form.Submission.{Submission}
use Rattle.xf_def_forest.specs.declared.content.Node.{Node}
use Rattle.xf_def_forest.specs.Printed.{lit_of}
use Rattle.xf_def_model.specs.Submitted.{Submitted, left, no_data, invalid}
use Rattle.xf_def_machine.specs.Exchange.{is_store_name}
use Rattle.xf_submit.specs.Errors.{type_text}
use Rattle.xf_submit.specs.declared.requesting.Request.{Request}
use Rattle.xf_submit.specs.declared.requesting.Request.TheVariants as request

-- ---- what is asked for

pub data Requested : Type 0 where
  -- nothing: it ends with an error of this type
  fails : List ℕ → Requested
  -- this, for the tree of this node
  asks : ℕ → Asked → Requested

-- the bytes of the nodes that are left, or none
abbrev pub sent_bytes : Bindings → List Node → Submission → ℕ → List ℕ → List ℕ
sent_bytes b nodes sub n kept = if sub.is_serialized then unwrap_or (option_map text_of (lit_of b kept n nodes)) [] else []

-- by the method
abbrev pub asked_by : Bindings → List Node → Submission → ℕ → List ℕ → Method → Asked
asked_by b nodes sub n kept Put = store.Put (sent_bytes b nodes sub n kept)
asked_by b nodes sub n kept Post = store.Put (sent_bytes b nodes sub n kept)
asked_by b nodes sub n kept Get = store.Get

-- by what is selected, where the resource is a name of the store
abbrev pub request_of : Bindings → List Node → Submission → Submitted → Requested
request_of b nodes sub no_data = fails (codes "no-data")
request_of b nodes sub (invalid n) = fails (codes "validation-error")
request_of b nodes sub (left n kept) = if is_store_name sub.resource then asks n (asked_by b nodes sub n kept sub.method) else fails (codes "resource-error")

-- ---- as code answers it

abbrev pub seen_request : Request → Requested
seen_request (request.Fails e) = fails (type_text e)
seen_request (request.Asks n asked) = asks n.number asked
