use denote.Exit.{yes}
use denote.Param.{param}
use denote.Param.Send.{AllSend, param_send, arg_send, shr_send, struct_send, recorded_send}
use denote.RattleType.{RattleType}
use denote.Ref.{ShrRef}
use denote.Struct.Declared.{Declared, shape}
use denote.Struct.Struct.{Struct}
use denote.Struct.Tuple.{type_at}
use mathlib.Core.List.{List, [], ◌∷◌}
use mir.Syntax.{named}
use Rattle.gql_tickets.specs.contracts.desk.Desk as desk
use Rattle.gql_tickets.specs.contracts.desk_seat.DeskSeat as desk_seat
use Rattle.gql_tickets_tests.specs.contracts.guestbook.Guestbook as guestbook
use Rattle.gql_tickets_tests.specs.contracts.guestbook.GuestbookJournaledLine.TheImpl as journaling
use Rattle.gql_tickets_tests.specs.contracts.guestbook.Line as line
use Rattle.gql_tickets_tests.proofs.SendLemmas.{book_desk_sync, book_seat_send}
use Rattle.gql_tickets_tests.proofs.tests.day.Goals as goal

pub join-one-requires-send-F : goal.join-one-requires-send-F
join-one-requires-send-F g c κs within =
    let rows : List RattleType = ShrRef (named 6) κs.1.1.1.1.1.1.0 (param 0 g.row.T)
    ∷ ShrRef (named 7) κs.1.1.1.1.1.1.1.0 (desk.the_row guestbook.the_row line.the_row journaling.ghosts)
    ∷ desk_seat.the_row guestbook.the_row line.the_row ∷ [] in
    let all : AllSend rows =
    (shr_send _ _ _ c.type_bounds.sync-T, (shr_send _ _ _ book_desk_sync, (book_seat_send, tt))) in
    let own : Declared = type_at [] rows in
    let sent = param_send 1 _ (recorded_send (Struct (shape own)) own.D own.to own.to_one (struct_send (shape own) all)) in
    record { owned = sent.owned; leaving = sent.leaving }

pub join-one-requires-send-A : goal.join-one-requires-send-A
join-one-requires-send-A g c κs within = param_send _ _ (arg_send _ yes _ book_seat_send)
