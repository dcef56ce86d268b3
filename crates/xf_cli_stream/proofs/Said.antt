-- Lines that are answered one after the other.
use Rattle.std.proofs.Common.{ℕ, ◌≡◌, ◌<◌, ◌≤◌, length, List, [], ◌∷◌, ◌++◌, refl, ap, sym, ◌∙◌, subst, append_assoc, append-nil}
use Rattle.std.specs.declared.alloc.Global.{Global}
use Rattle.std.specs.Prelude.{String, Result, Ok, Err, OnOk}
use Rattle.std.proofs.lemmas.Bool.{lt-ltb, le-ltb}
use Rattle.xf_base.specs.Limits.{line_limit}
use Rattle.xf_cli_stream.specs.declared.answering.AnswerFault.{AnswerFault}
use Rattle.xf_cli_stream.specs.declared.answering.AnswerFault.TheVariants as fault
use Rattle.xf_cli_stream.specs.declared.lines.Next.{Next}
use Rattle.xf_cli_stream.specs.Answers.{Replies, too_long_reply, takes_by, Takes, TakesAll}
use Rattle.xf_cli_stream.specs.Answering.{IfReply, IsReplyOrEnd}

-- one line more
pub takes-more : {A : Type 0} (replies : Replies A) (first now after : A) (lines : List (List ℕ)) (line done text : List ℕ)
    → TakesAll replies first lines done now → Takes replies now line text after → TakesAll replies first (lines ++ line ∷ []) (done ++ text) after
takes-more replies first now after [] line done text h k =
    (text, [], after, subst (λ s. Takes replies s line text after) h.1 k, (refl, refl), ap (λ d. d ++ text) h.0 ∙ sym (append-nil text))
takes-more replies first now after (l ∷ ls) line done text h k =
    (h.0, h.1 ++ text, h.2, h.3, takes-more replies h.2 now after ls line h.1 text h.4 k, ap (λ d. d ++ text) h.5 ∙ append_assoc h.0 h.1 text)

-- ---- a line by its length

pub takes_short : {A : Type 0} (replies : Replies A) (s after : A) (line text : List ℕ) → length line ≤ line_limit → replies s line text after → Takes replies s line text after
takes_short replies s after line text h k = subst (λ b. takes_by b ((text ≡ too_long_reply) × (after ≡ s)) (replies s line text after)) (sym (le-ltb line_limit (length line) h)) k

pub takes_long : {A : Type 0} (replies : Replies A) (s : A) (line text : List ℕ) → line_limit < length line → text ≡ too_long_reply → Takes replies s line text s
takes_long replies s line text h k = subst (λ b. takes_by b ((text ≡ too_long_reply) × (s ≡ s)) (replies s line text s)) (sym (lt-ltb line_limit (length line) h)) (k, refl)

-- ---- what holds where there is a reply

pub reply_stands : (reply : Result (String Global) AnswerFault) (next : Next) (fact : Type 0) → IsReplyOrEnd reply next → OnOk reply fact → IfReply next fact
reply_stands (Ok text) next fact h k = subst (λ n. IfReply n fact) (sym h) k
reply_stands (Err fault.Disk) next fact h k = subst (λ n. IfReply n fact) (sym h) tt
reply_stands (Err fault.Memory) next fact h k = subst (λ n. IfReply n fact) (sym h) tt
