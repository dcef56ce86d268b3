use Rattle.xf_law_sessions.proofs.RoomLemmas.Room.{room_laws}
use Rattle.xf_law_sessions.proofs.room.states_have_room.Goals as goal

pub returns : goal.returns
returns c = room_laws
