-- Seats of desks may go to other threads, and threads may use a desk at once.
use denote.Param.Send.{IsSend, IsSync, sendable}
use denote.RattleType.{RattleType}
use Rattle.atomic_table.proofs.owned.Table.TheSendSync as table_is
use Rattle.atomic_table.proofs.shared.Seat.TheSendSync as place_is
use Rattle.std.proofs.Crossing as std
use Rattle.std.proofs.alloc.Global.TheSendSync as heap
use Rattle.std.specs.contracts.option.Option as option
use Rattle.gql_tickets.specs.contracts.desk.Desk as desk
use Rattle.gql_tickets.specs.contracts.desk_seat.DeskSeat as desk_seat
use Rattle.gql_tickets.specs.declared.journaled.Journaled.{Ghosts as Journaling}

module _ (A E : RattleType) (a : IsSend A) where
  slot_send : IsSend (option.the_row A)
  slot_send = search (sendable) depth 20

  pub seat_send : IsSend (desk_seat.the_row A E)
  seat_send = search (place_is.the_send, slot_send, sendable) depth 20

  module _ (journals : Journaling A.Denot E.Denot) where
    pub desk_send : IsSend (desk.the_row A E journals)
    desk_send = search (table_is.the_field_send, slot_send, std.frees, heap.the_send, heap.the_sync, sendable) depth 12

    pub desk_sync : IsSync (desk.the_row A E journals)
    desk_sync = search (table_is.the_field_sync, slot_send, std.frees, heap.the_send, heap.the_sync, sendable) depth 12

    pub desk_field_send : IsSend (desk.the_field A E journals).row
    desk_field_send = search (table_is.the_field_send, slot_send, std.frees, heap.the_send, heap.the_sync, sendable) depth 12

    pub desk_field_sync : IsSync (desk.the_field A E journals).row
    desk_field_sync = search (table_is.the_field_sync, slot_send, std.frees, heap.the_send, heap.the_sync, sendable) depth 12
