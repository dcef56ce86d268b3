-- What one fault is to the call above.
use Rattle.xf_journal.specs.declared.fault.JournalFault.{JournalFault}
use Rattle.xf_journal.specs.declared.fault.JournalFault.TheVariants as journal
use Rattle.xf_actions.specs.declared.fault.EventFault.{EventFault}
use Rattle.xf_actions.specs.declared.fault.EventFault.TheVariants as event
use Rattle.xf_session.specs.declared.fault.OpenFault.{OpenFault}
use Rattle.xf_session.specs.declared.fault.OpenFault.TheVariants as opening
use Rattle.xf_session.specs.declared.fault.PostFault.{PostFault}
use Rattle.xf_session.specs.declared.fault.PostFault.TheVariants as post

abbrev pub of_event : EventFault → PostFault
of_event (event.Refused refusal) = post.Refused refusal
of_event event.Memory = post.Memory

abbrev pub of_start : EventFault → OpenFault
of_start (event.Refused refusal) = opening.Refused refusal
of_start event.Memory = opening.Memory

abbrev pub of_journal : JournalFault → OpenFault
of_journal journal.DiskFault = opening.DiskFault
of_journal (journal.Damaged slot at) = opening.Damaged slot at
of_journal journal.Memory = opening.Memory
