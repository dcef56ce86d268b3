-- The words of an explanation.
use Rattle.std.specs.Prelude.{ℕ, ◌%◌, List, [], codes, slice_get, Option, Some, None, bytes_eq, if◌then◌else◌}
use Rattle.xf_path.specs.declared.fault.ExprKind.{ExprKind}
use Rattle.xf_path.specs.declared.fault.ExprKind.TheVariants as kind
use Rattle.xf_table.specs.Contents.{attribute_entries}
use Rattle.xf_table.specs.Rows.{Entry}
use Rattle.xf_form_vocabulary.specs.declared.attribute.TheConstants as at
use Rattle.xf_form_vocabulary.specs.declared.rules.Wanted.{Wanted}
use Rattle.xf_form_vocabulary.specs.declared.rules.Wanted.TheVariants as wanted
use Rattle.xf_form_vocabulary.specs.declared.texts.Choice.{Choice}
use Rattle.xf_form_vocabulary.specs.declared.texts.Choice.TheVariants as choice
use Rattle.xf_form_explain.specs.declared.detail.Need.{Need}
use Rattle.xf_form_explain.specs.declared.detail.Need.TheVariants as need

abbrev pub name_in : Option Entry → List ℕ
name_in None = []
name_in (Some entry) = entry.name

-- the local name of an attribute by its code
abbrev pub attribute_name : ℕ → List ℕ
attribute_name code = name_in (slice_get attribute_entries (code % at.EVENTS))

abbrev pub need_text : Need → List ℕ
need_text need.Event = codes "ev:event"
need_text need.Resource = codes "resource or action"
need_text need.Method = codes "method"
need_text need.Nodes = codes "nodeset or bind"
need_text need.Node = codes "ref or bind"
need_text need.Value = codes "ref, bind or value"
need_text need.Source = codes "ref, bind or resource"
need_text need.Repeat = codes "repeat"
need_text need.Index = codes "index"
need_text need.Case = codes "case"
need_text need.Control = codes "control"
need_text need.Name = codes "name"
need_text need.Target = codes "targetid or target"

abbrev pub kind_text : ExprKind → List ℕ
kind_text kind.Syntax = codes "syntax"
kind_text kind.UnknownFunction = codes "no such function"
kind_text kind.Arity = codes "the function takes other arguments"
kind_text kind.ClockOrRandom = codes "the function depends on the clock or on chance"
kind_text kind.Prefix = codes "the prefix has no namespace"
kind_text kind.Long = codes "more than 4096 bytes"
kind_text kind.Deep = codes "nested more than 64 deep"

abbrev pub choice_text : Choice → List ℕ
choice_text choice.Truth = codes "true or false"
choice_text choice.Method = codes "put, post or get"
choice_text choice.Replace = codes "all, instance, text or none"
choice_text choice.Selection = codes "open or closed"
choice_text choice.Position = codes "before or after"
choice_text choice.Phase = codes "capture or default"
choice_text choice.Propagation = codes "stop or continue"
choice_text choice.DefaultAction = codes "cancel or perform"
choice_text choice.Delay = codes "0"
choice_text choice.Count = codes "one to nine digits"
choice_text choice.Decimals = codes "one digit"

abbrev pub wanted_text : Wanted → List ℕ
wanted_text wanted.Model = codes "model"
wanted_text wanted.Instance = codes "instance"
wanted_text wanted.Bind = codes "bind"
wanted_text wanted.Submission = codes "submission"
wanted_text wanted.Repeat = codes "repeat"
wanted_text wanted.Case = codes "case"
wanted_text wanted.Control = codes "control or container"
wanted_text wanted.Any = codes "element"

abbrev pub limit_text : List ℕ → List ℕ
limit_text word =
    if bytes_eq word (codes "counts") then codes "more than 16 models, 64 instances, 4096 binds, 4096 controls and containers, 256 namespaces or 32768 prefixes"
    else (if bytes_eq word (codes "depth") then codes "an instance nests more than 100 elements deep"
    else (if bytes_eq word (codes "nodes") then codes "the instances have more than 65536 elements, attributes and texts"
    else (if bytes_eq word (codes "text") then codes "a text or an attribute of an instance has more than 65536 bytes"
    else codes "a limit is passed")))
