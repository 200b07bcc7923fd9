-- Seats at a guest book may go to other threads, and threads may use its desk at once.
use denote.Param.Send.{IsSend, IsSync, sendable}
use Rattle.gql_tickets.proofs.SendLemmas.{desk_sync, seat_send}
use Rattle.gql_tickets.specs.contracts.desk.Desk as desk
use Rattle.gql_tickets.specs.contracts.desk_seat.DeskSeat as desk_seat
use Rattle.std.proofs.Crossing as std
use Rattle.gql_tickets_tests.specs.contracts.guestbook.Guestbook as guestbook
use Rattle.gql_tickets_tests.specs.contracts.guestbook.GuestbookJournaledLine.TheImpl as journaling
use Rattle.gql_tickets_tests.specs.contracts.guestbook.Line as line

book_send : IsSend guestbook.the_row
book_send = search (std.crosses, sendable) depth 20

pub book_seat_send : IsSend (desk_seat.the_row guestbook.the_row line.the_row)
book_seat_send = seat_send guestbook.the_row line.the_row book_send

pub book_desk_sync : IsSync (desk.the_row guestbook.the_row line.the_row journaling.ghosts)
book_desk_sync = desk_sync guestbook.the_row line.the_row book_send journaling.ghosts
