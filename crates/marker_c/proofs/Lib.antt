mod HandleSteps
