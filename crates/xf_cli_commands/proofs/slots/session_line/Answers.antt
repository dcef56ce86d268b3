use Rattle.std.proofs.Common.{◌≡◌, ◌++◌, codes, string_bytes, subst}
use Rattle.std.specs.Prelude.{decimal, IfOk}
use Rattle.xf_cli_commands.proofs.slots.session_line.Goals as goal

pub returns-in-Damaged : goal.returns-in-Damaged
returns-in-Damaged c =
    rw c.in-Damaged.is
    (subst (λ slot. IfOk c.damaged_line.result (λ line. string_bytes line ≡ codes "session Damaged " ++ slot ++ codes " " ++ decimal c.in-Damaged.at ++ codes "\n")) c.slot_name.ensures
    c.damaged_line.ensures)
