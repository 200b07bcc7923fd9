-- `finish` promises one `Stretch` of Progress. From there on, each word leads to one of these.

-- what is told of tasks: the record of their polls, and how many polls each takes
pub mod Record
pub mod Pace
-- what a plan tells of its tasks, what they are given, and the states that they go through
pub mod Plan
pub mod Given
pub mod Arena
pub mod Waiting
-- the set, the plan, the hooks and the turns of an execution, and a moment of it
pub mod Parts
-- what is kept of what is lent to it, its steps, and the rounds of its hooks
pub mod Keeps
pub mod Steps
pub mod Rounds
-- what holds between two turns, and what some turns leave
pub mod Progress
-- one turn: of its task, of what is lent, and of the whole
pub mod Turn
pub mod Turning
pub mod Advance
-- a root key of a mutation, and all of them one after another
pub mod Root
pub mod Phases
