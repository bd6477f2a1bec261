mod StepCounts
mod ViewSums
mod Rules
