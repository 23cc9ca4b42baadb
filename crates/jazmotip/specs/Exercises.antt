-- What a script comes to, in numbers (02, C-23). Assumes nothing.
use Rattle.exercise.specs.Losses.{Answer, answer_number, answer_step}
use Rattle.jazmotip.specs.declared.exercises.FirstLoss.{FirstLoss}

abbrev pub loss_told : Answer → FirstLoss
loss_told a = record { number = answer_number a; step = answer_step a }
