-- The world after polls and turns, as those of a root of a mutation or of another task.
use Rattle.std.proofs.Common.{◌≡◌, Bool, true, false, if◌then◌else◌, refl, sym, ap, ◌∙◌}
use Rattle.std.specs.Prelude.{Result, Ok, Err, IsTrue}
use Rattle.std.specs.declared.alloc.AllocError.{AllocError}
use Rattle.gql_resolve.specs.Call.{Call}
use Rattle.gql_resolve.specs.Lawful.{PollsLawfully, PollsRootLawfully}
use Rattle.gql_resolve.specs.declared.answer.Answer.{Answer}
use Rattle.gql_resolve.specs.declared.answer.Polled.{Polled}
use Rattle.gql_resolve.specs.declared.answer.Polled.TheVariants.{Ready, Pending}
use Rattle.gql_tasks.specs.declared.arena.Turn.TheVariants as turn
use Rattle.gql_tasks.specs.declared.given.Given.{Given}
use Rattle.gql_tasks.specs.declared.given.Given.TheVariants.{Answered, Put}
use Rattle.gql_tasks.specs.Root.{PollsRightly, world_polled, world_turned}

module _ {V W E : Type 0} (answer : Call V → W → Answer V) (effect : Call V → W → W) (call : Call V) (old new : W) where
  pub polled_root : (root : Bool) (result : Result (Polled V) E) → root ≡ true → PollsRootLawfully answer effect call old new result
      → new ≡ world_polled root (effect call) old result
  polled_root root (Ok (Ready given)) is lawful = lawful.0 ∙ sym (ap (λ b. if b then effect call old else old) is)
  polled_root root (Ok Pending) is lawful = lawful
  polled_root root (Err want) is lawful = lawful

  pub polled_other : (root : Bool) (result : Result (Polled V) E) → root ≡ false → PollsLawfully answer call old new result
      → new ≡ world_polled root (effect call) old result
  polled_other root (Ok (Ready given)) is lawful = lawful.0 ∙ sym (ap (λ b. if b then effect call old else old) is)
  polled_other root (Ok Pending) is lawful = lawful
  polled_other root (Err want) is lawful = lawful

  pub answered_root : (result : Result (Polled V) E) → PollsRootLawfully answer effect call old new result → PollsRightly (answer call old) result
  answered_root (Ok (Ready given)) lawful = lawful.1
  answered_root (Ok Pending) lawful = tt
  answered_root (Err want) lawful = tt

  pub answered_other : (result : Result (Polled V) E) → PollsLawfully answer call old new result → PollsRightly (answer call old) result
  answered_other (Ok (Ready given)) lawful = lawful.1
  answered_other (Ok Pending) lawful = tt
  answered_other (Err want) lawful = tt

-- a start that gives a value leaves the world, which is also the effect of a root
pub started_world : {W : Type 0} (root is_root : Bool) (old new effect : W) → is_root ≡ root → new ≡ old → (IsTrue is_root → effect ≡ old)
    → new ≡ (if root then effect else old)
started_world true true old new effect is same still = same ∙ sym (still refl)
started_world true false old new effect is same still = absurd (cc)
started_world false is_root old new effect is same still = same

-- an answer that is no root's leaves the world, whatever was given
pub other_given : {V W : Type 0} (effect : W → W) (world new : W) (given : Given V)
    → new ≡ world_turned {E = AllocError} false effect world (Ok (turn.Answered given)) → new ≡ world
other_given effect world new (Answered answer) turned = turned
other_given effect world new (Put put) turned = turned
